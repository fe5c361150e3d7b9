-- A loop that fills an array, one place a turn, makes the table of its values (`filled`); so it does for a struct's arrays, one turn a place of each (`pages_read`, `ring_read`,
-- `places_read`). The idea: after n turns the first n places are the table's, and the rest as before.
use Rattle.std.specs.Prelude.{Option}
use Rattle.pack.specs.declared.TileKey.{TileKey}
use Rattle.std.proofs.Common.{◌≡◌, ℕ, zero, suc, ◌+◌, ◌*◌, ◌≤◌, List, [], ◌∷◌, ◌++◌, length, get_or, drop, set, sym, refl, ap, ◌∙◌, append-nil, arith, length-append, drop_of_length-le, drop-cons}
use lib.Seq.{set_at, append_snoc}
use Rattle.num.specs.Fold.{up_to}
use Rattle.geo.specs.declared.Point.{Point}
use Rattle.cache.specs.declared.Pages.{Pages}
use Rattle.cache.specs.declared.Ring.{Ring}
use Rattle.cache.specs.declared.Slot.{Slot}
use Rattle.engine.specs.declared.Places.{Places}
use Rattle.words.specs.Words.{table, from, slot_by, place_by, point_by}

-- ---- any array

module _ {A : Type 0} (f : ℕ → A) where
  abbrev pub turn : List A → ℕ → List A
  turn o j = set o j (f j)

  pub length-table : (n : ℕ) → length (table f n) ≡ n
  unfolding table
  length-table zero = refl
  length-table (suc n) = length-append (table f n) (f n ∷ []) ∙ omega (arith, length-table n)

  partly : (xs : List A) (n : ℕ) → n ≤ length xs → up_to turn xs n ≡ table f n ++ drop n xs
  unfolding up_to table
  partly xs zero h = refl
  partly xs (suc n) h =
      ap
      (λ (o : List A). set o n (f n))
      (partly xs n (omega arith) ∙ ap (λ (r : List A). table f n ++ r) (drop-cons xs n (f n) (omega arith)))
      ∙ set_at (table f n) (get_or xs n (f n)) (drop (suc n) xs) (f n) n (length-table n)
      ∙ sym (append_snoc (table f n) (f n) (drop (suc n) xs))

  pub filled : (xs : List A) (n : ℕ) → length xs ≡ n → up_to turn xs n ≡ table f n
  filled xs n e =
      partly xs n (omega (arith, e))
      ∙ ap (λ (r : List A). table f n ++ r) (drop_of_length-le xs {i = n} (omega (arith, e)))
      ∙ append-nil (table f n)

-- ---- the pages

abbrev slot_in : List ℕ → ℕ → Slot
slot_in ws j = slot_by (from ws (15 + 3 * j))

abbrev age_in : List ℕ → ℕ → ℕ
age_in ws j = get_or ws (303 + j) 0

abbrev pub pages_turn : List ℕ → Pages → ℕ → Pages
pages_turn ws g j = record { slots = set g.slots j (slot_in ws j); used = set g.used j (age_in ws j); count = g.count; clock = g.clock }

pages_apart : (ws : List ℕ) (g : Pages) (n : ℕ)
    → up_to (pages_turn ws) g n
    ≡ record { slots = up_to (turn (slot_in ws)) g.slots n; used = up_to (turn (age_in ws)) g.used n; count = g.count; clock = g.clock }
unfolding up_to
pages_apart ws g zero = refl
pages_apart ws g (suc n) = rw (pages_apart ws g n)

pub pages_read : (ws : List ℕ) (g : Pages) {n t : ℕ} → length g.slots ≡ 96 → length g.used ≡ 96 → g.count ≡ n → g.clock ≡ t
    → up_to (pages_turn ws) g 96 ≡ record { slots = table (slot_in ws) 96; used = table (age_in ws) 96; count = n; clock = t }
pages_read ws g s u c k = pages_apart ws g 96 ∙ rw (filled (slot_in ws) g.slots 96 s, filled (age_in ws) g.used 96 u, c, k)

-- ---- the ring

abbrev key_in : List ℕ → ℕ → Option TileKey
key_in ws j = place_by (from ws (401 + 2 * j))

abbrev pub ring_turn : List ℕ → Ring → ℕ → Ring
ring_turn ws r j = record { keys = set r.keys j (key_in ws j); next = r.next }

ring_apart : (ws : List ℕ) (r : Ring) (n : ℕ) → up_to (ring_turn ws) r n ≡ record { keys = up_to (turn (key_in ws)) r.keys n; next = r.next }
unfolding up_to
ring_apart ws r zero = refl
ring_apart ws r (suc n) = rw (ring_apart ws r n)

pub ring_read : (ws : List ℕ) (r : Ring) {n : ℕ} → length r.keys ≡ 64 → r.next ≡ n
    → up_to (ring_turn ws) r 64 ≡ record { keys = table (key_in ws) 64; next = n }
ring_read ws r k e = ring_apart ws r 64 ∙ rw (filled (key_in ws) r.keys 64 k, e)

-- ---- the places

abbrev point_in : List ℕ → ℕ → Point
point_in ws j = point_by (from ws (544 + 2 * j))

abbrev pub places_turn : List ℕ → Places → ℕ → Places
places_turn ws h j = record { v = set h.v j (point_in ws j); len = h.len }

places_apart : (ws : List ℕ) (h : Places) (n : ℕ) → up_to (places_turn ws) h n ≡ record { v = up_to (turn (point_in ws)) h.v n; len = h.len }
unfolding up_to
places_apart ws h zero = refl
places_apart ws h (suc n) = rw (places_apart ws h n)

pub places_read : (ws : List ℕ) (h : Places) {n : ℕ} → length h.v ≡ 16 → h.len ≡ n
    → up_to (places_turn ws) h 16 ≡ record { v = table (point_in ws) 16; len = n }
places_read ws h l e = places_apart ws h 16 ∙ rw (filled (point_in ws) h.v 16 l, e)
