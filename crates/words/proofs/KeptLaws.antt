-- What `kept` asks of the words, struct by struct: whether the words of what is read from them (`pages_of`, .., `engine_of`) stand there again (`pages_kept`, .., `engine_kept`). An age is the
-- word that it is read from, so that nothing is asked of it. Words are some engine's where the slots' words are slots' and all else is held (`accepted_is`).
use Rattle.std.proofs.Common.{◌≡◌, ℕ, zero, suc, ◌+◌, ◌*◌, ◌<◌, Bool, true, false, ◌&&◌, eqb, List, [], ◌∷◌, length, get_or, ℤ, pos, sym, refl, ap, ◌∙◌, arith, eq-eqb, eqb-true}
use mathlib.Core.Bool.{and-false}
use borrow.Author.Tests.{eqb-false}
use Rattle.num.specs.Cast.{bits32}
use Rattle.tile.specs.Below.{all_below}
use Rattle.cache.specs.Runs.{empty_slot}
use Rattle.cache.specs.Keys.{empty_place}
use Rattle.words.specs.Held.{held_at, slots_held, keys_held, points_held, heights_held, end_held, road_held, beside_shared, beside}
use Rattle.pack.specs.Bytes.{signed32}
use Rattle.words.specs.Words.{table, spread, from, low_word, high_word, long_of, phase_word, phase_of, header_words, header_by, loading_words, loading_by, pending_words, pending_of, cache_words, cache_of, shared_of, follower_words, follower_of, pages_words, ring_words, places_words, current_words, current_by, ahead_words, ahead_of, height_of, slot_words, slot_by, slots_words, used_words, pages_of, maybe_key_words, keys_words, place_by, ring_of, point_words, point_by, no_point, points_words, places_of, heights_words, heights_of, words, engine_of, accepted}
use Rattle.words.proofs.HeldLaws.{and-true, below_same, held_spread, held_all}
use Rattle.words.proofs.PieceLaws.{words-length, pages_held, ring_held, cache_held, shared_held, places_held, ahead_held, engine_held}
use Rattle.words.proofs.TripLaws.{table_at}
use Rattle.words.proofs.WordsLaws.{refused}

-- ---- arrays

-- a loop's pieces of what a table holds
tabled : {A : Type 0} (write : A → List ℕ) (w : ℕ) → ((x : A) → length (write x) ≡ w) → (read : ℕ → A) (d : A) (at n : ℕ) (ws : List ℕ)
    → held_at at (spread (λ (i : ℕ). write (get_or (table read n) i d)) n) ws ≡ all_below (λ (j : ℕ). held_at (at + w * j) (write (read j)) ws) n
tabled {A = A} write w long read d at n ws =
    held_spread (λ (i : ℕ). write (get_or (table read n) i d)) w (λ (j : ℕ). long (get_or (table read n) j d)) at n ws
    ∙ below_same _ _ n (λ (j : ℕ) (h : j < n). ap (λ (x : A). held_at (at + w * j) (write x) ws) (table_at read d n j h))

pub slots_kept : (ws : List ℕ) → held_at 15 (slots_words (pages_of ws 15).slots) ws ≡ slots_held ws 96
unfolding slots_words pages_of
slots_kept ws = tabled slot_words 3 (λ s. refl) (λ (i : ℕ). slot_by (from ws (15 + 3 * i))) empty_slot 15 96 ws

-- a word that stands for itself
own : (ws : List ℕ) (at j : ℕ) → held_at (at + 1 * j) (get_or ws (at + j) 0 ∷ []) ws ≡ true
unfolding held_at
own ws at j =
    let far : at + 1 * j ≡ at + j = omega arith in
    rw (far, eq-eqb (get_or ws (at + j) 0) (get_or ws (at + j) 0) refl)

all_true : (n : ℕ) → all_below (λ (j : ℕ). true) n ≡ true
unfolding all_below
all_true zero = refl
all_true (suc n) = rw (all_true n)

pub used_kept : (ws : List ℕ) → held_at 303 (used_words (pages_of ws 15).used) ws ≡ true
unfolding used_words pages_of
used_kept ws =
    tabled (λ (n : ℕ). n ∷ []) 1 (λ n. refl) (λ (i : ℕ). get_or ws (303 + i) 0) 0 303 96 ws
    ∙ below_same _ (λ (j : ℕ). true) 96 (λ (j : ℕ) (h : j < 96). own ws 303 j)
    ∙ all_true 96

pub keys_kept : (ws : List ℕ) → held_at 401 (keys_words (ring_of ws 401).keys) ws ≡ keys_held ws 64
unfolding keys_words ring_of
keys_kept ws = tabled (λ p. maybe_key_words p) 2 (λ p. refl) (λ (i : ℕ). place_by (from ws (401 + 2 * i))) empty_place 401 64 ws

pub points_kept : (ws : List ℕ) → held_at 544 (points_words (places_of ws 544).v) ws ≡ points_held ws 16
unfolding points_words places_of
points_kept ws = tabled point_words 2 (λ p. refl) (λ (i : ℕ). point_by (from ws (544 + 2 * i))) no_point 544 16 ws

one : (ws : List ℕ) (at j : ℕ) (x : ℕ) → held_at (at + 1 * j) (x ∷ []) ws ≡ eqb x (get_or ws (at + j) 0)
unfolding held_at
one ws at j x =
    let far : at + 1 * j ≡ at + j = omega arith in
    ap (λ (k : ℕ). eqb x (get_or ws k 0) && true) far ∙ and-true (eqb x (get_or ws (at + j) 0))

pub heights_kept : (ws : List ℕ) (at n : ℕ) → held_at at (heights_words (heights_of ws at n) n) ws ≡ heights_held ws at n
unfolding heights_words heights_of
heights_kept ws at n =
    tabled (λ (z : ℤ). bits32 z ∷ []) 1 (λ z. refl) (λ (i : ℕ). height_of (get_or ws (at + i) 0)) (pos 0) at n ws
    ∙ below_same _ _ n (λ (j : ℕ) (h : j < n). one ws at j (bits32 (height_of (get_or ws (at + j) 0))))

-- ---- structs

and_with : {a b c d : Bool} → a ≡ b → c ≡ d → (a && c) ≡ (b && d)
and_with e f = rw (e, f)

under : (a : Bool) {c d : Bool} → c ≡ d → (a && c) ≡ (a && d)
under a e = rw e

pub pages_kept : (ws : List ℕ)
    → held_at 15 (pages_words (pages_of ws 15)) ws ≡ slots_held ws 96 && held_at 399 (low_word (get_or ws 399 0) ∷ get_or ws 400 0 ∷ []) ws
unfolding pages_of
pages_kept ws = pages_held (pages_of ws 15) ws ∙ and_with (slots_kept ws) (and_with (used_kept ws) refl)

pub ring_kept : (ws : List ℕ) → held_at 401 (ring_words (ring_of ws 401)) ws ≡ keys_held ws 64 && held_at 529 (low_word (get_or ws 529 0) ∷ []) ws
unfolding ring_of
ring_kept ws = ring_held (ring_of ws 401) ws ∙ and_with (keys_kept ws) refl

pub places_kept : (ws : List ℕ) → held_at 544 (places_words (places_of ws 544)) ws ≡ points_held ws 16 && held_at 576 (low_word (get_or ws 576 0) ∷ []) ws
unfolding places_of
places_kept ws = places_held (places_of ws 544) ws ∙ and_with (points_kept ws) refl

abbrev time_in : List ℕ → ℕ
time_in ws = long_of (get_or ws 612 0) (get_or ws 613 0)

pub ahead_kept : (ws : List ℕ)
    → held_at 611 (ahead_words (ahead_of ws 611)) ws
    ≡ held_at 611 (get_or ws 611 0 ∷ low_word (time_in ws) ∷ high_word (time_in ws) ∷ []) ws
    && (held_at 614 (current_words (current_by (from ws 614))) ws && (held_at 628 (bits32 (signed32 (get_or ws 628 0)) ∷ []) ws && road_held ws))
unfolding ahead_of
ahead_kept ws =
    ahead_held (ahead_of ws 611) ws
    ∙ under (held_at 611 (get_or ws 611 0 ∷ low_word (time_in ws) ∷ high_word (time_in ws) ∷ []) ws)
    (under (held_at 614 (current_words (current_by (from ws 614))) ws)
    (under (held_at 628 (bits32 (signed32 (get_or ws 628 0)) ∷ []) ws)
    (and_with (heights_kept ws 629 501)
    (under (held_at 1130 (low_word (get_or ws 1130 0) ∷ []) ws) (ap (λ (r : Bool). r && end_held ws) (heights_kept ws 1131 11))))))

-- ---- the whole

-- the slots, taken out of the rest
slots_out : (a b s n x f : Bool) → ((a && (b && ((s && n) && x))) && f) ≡ (((a && (b && (n && x))) && f) && s)
slots_out false b s n x f = refl
slots_out true false s n x f = refl
slots_out true true true n x f = sym (and-true ((n && x) && f))
slots_out true true false n x f = sym (and-false ((n && x) && f))

abbrev beside_pages : List ℕ → Bool
beside_pages ws =
    held_at 401 (ring_words (ring_of ws 401)) ws
    && (held_at 530 (loading_words (loading_by (from ws 530))) ws
    && (held_at 536 (pending_words (pending_of (get_or ws 536 0) (get_or ws 537 0))) ws && held_at 538 (get_or ws 538 0 ∷ []) ws))

cache_kept : (ws : List ℕ) → held_at 15 (cache_words (cache_of ws 15)) ws ≡ (slots_held ws 96 && held_at 399 (low_word (get_or ws 399 0) ∷ get_or ws 400 0 ∷ []) ws) && beside_pages ws
unfolding cache_of
cache_kept ws = cache_held (cache_of ws 15) ws ∙ ap (λ (r : Bool). r && beside_pages ws) (pages_kept ws)

abbrev first : List ℕ → Bool
first ws = held_at 0 (1 ∷ phase_word (phase_of (get_or ws 1 0)) ∷ []) ws

abbrev header : List ℕ → Bool
header ws = held_at 2 (header_words (header_by (from ws 2))) ws

abbrev follower : List ℕ → Bool
follower ws = held_at 539 (follower_words (follower_of ws)) ws

engine_kept : (ws : List ℕ) → held_at 0 (words (engine_of ws)) ws ≡ (beside_shared ws && follower ws) && slots_held ws 96
unfolding engine_of shared_of
engine_kept ws =
    engine_held (engine_of ws) ws
    ∙ ap (λ (r : Bool). r && follower ws) (shared_held (shared_of ws) ws ∙ under (first ws) (under (header ws) (cache_kept ws)))
    ∙ slots_out (first ws) (header ws) (slots_held ws 96) (held_at 399 (low_word (get_or ws 399 0) ∷ get_or ws 400 0 ∷ []) ws) (beside_pages ws) (follower ws)

-- another count of words is no engine's
pub accepted_is : (ws : List ℕ) → accepted ws ≡ (beside ws && slots_held ws 96)
unfolding accepted beside
accepted_is ws = by (eqb (length ws) 1150) refl
  where
    by : (t : Bool) → eqb (length ws) 1150 ≡ t → accepted ws ≡ ((t && (beside_shared ws && follower ws)) && slots_held ws 96)
    by true e = held_all (words (engine_of ws)) ws (words-length (engine_of ws) ∙ sym (eqb-true (length ws) 1150 e)) ∙ engine_kept ws
    by false e = refused ws (eqb-false (length ws) 1150 e)
