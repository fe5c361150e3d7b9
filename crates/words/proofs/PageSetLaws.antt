-- One slot or one age put at its place gives the words of the engine with that slot or that age (`slot_put`, `age_put`), and words with other pages are read back: the pages as they were written, and
-- all else as before (`pages_again`), so that they are accepted again (`accepted_again`). The idea of the second: the rest is read from the 401st word on, or before the 15th, and stands there as before.
use Rattle.std.proofs.Common.{◌≡◌, ℕ, zero, suc, ◌+◌, ◌-◌, ◌*◌, ◌%◌, ◌<◌, ◌≤◌, true, ◌≢◌, List, [], ◌∷◌, ◌++◌, length, get_or, drop, set, sym, refl, ap, ◌∙◌, ⊎_elim, append-nil, arith, length-set, get_or-set_other, get_or-set_same}
use mathlib.Core.Path.{fun_ext}
use Rattle.pack.specs.Bytes.{signed32}
use Rattle.cache.specs.Evict.{with_slots}
use Rattle.cache.specs.Runs.{empty_slot, slot_at}
use Rattle.cache.specs.declared.Cache.{Cache}
use Rattle.cache.specs.declared.Pages.{Pages}
use Rattle.cache.specs.declared.Slot.{Slot}
use Rattle.cache.proofs.Below.{same_or}
use Rattle.engine.specs.declared.Engine.{Engine}
use Rattle.words.specs.Came.{with_pages}
use Rattle.words.specs.Put.{put}
use Rattle.words.specs.Words.{table, spread, flat, from, is_set, low_word, long_of, float_of, height_of, maybe_key_of, slot_words, slots_words, used_words, pages_words, pages_of, ring_words, place_by, ring_of, loading_words, loading_by, pending_words, pending_of, cache_words, cache_of, shared_words, shared_of, fix_by, point_by, places_of, heading_of, sight_of, current_by, challenger_by, matcher_of, time_of, due_of, heights_of, end_of, ahead_of, follower_words, follower_of, words, engine_of, accepted}
use Rattle.words.proofs.ArrayLaws.{length-table}
use Rattle.words.proofs.BackLaws.{PagesBack, slot_by_lem, pages_back}
use Rattle.words.proofs.PagesLaws.{slots_size, slot_at_lem, count_is}
use Rattle.words.proofs.PieceLaws.{slots_long, used_long, pages_long, ring_long}
use Rattle.words.proofs.PutLaws.{put_after, put_all, length-spread}
use Rattle.words.proofs.SameLaws.{same_self}
use Rattle.words.proofs.SetLaws as Sets
use Rattle.words.proofs.SetLaws.{put_behind, put_inside, set-put, in_held_pages}
use Rattle.words.proofs.TripLaws.{at_is, here, next, word_of}
use Rattle.words.proofs.WordsLaws.{words_engine}

-- ---- one piece of many

module _ (f g : ℕ → List ℕ) (w p : ℕ) (long : (j : ℕ) → length (f j) ≡ w) (own : length (g p) ≡ w) (others : (j : ℕ) → j ≢ p → g j ≡ f j)
    (room : (n : ℕ) → p < n → w * p + w ≤ w * n) where
  before : (n : ℕ) → n ≤ p → spread f n ≡ spread g n
  unfolding spread
  before zero h = refl
  before (suc n) h = rw (before n (omega arith), others n (λ e. omega (arith, e)))

  spread_set : (n : ℕ) → p < n → put (w * p) (g p) (spread f n) ≡ spread g n
  unfolding spread
  spread_set zero h = absurd (omega arith)
  spread_set (suc n) h = ⊎_elim last (inner (λ (l : p < n). spread_set n l)) (same_or p n)
    where
      last : p ≡ n → put (w * p) (g p) (spread f n ++ f n) ≡ spread g n ++ g n
      last e =
          put_behind (g p) (spread f n) (f n) (w * p) 0 (rw e (omega (arith, length-spread f w long n)))
          ∙ ap (λ (r : List ℕ). spread f n ++ r) (put_all (g p) (f n) (own ∙ sym (long n)) ∙ ap g e)
          ∙ ap (λ (r : List ℕ). r ++ g n) (before n (omega (arith, e)))

      inner : (p < n → put (w * p) (g p) (spread f n) ≡ spread g n) → (p ≡ n → ⊥) → put (w * p) (g p) (spread f n ++ f n) ≡ spread g n ++ g n
      inner within e =
          let less : p < n = omega (arith, e, h) in
          put_inside (g p) (spread f n) (f n) (w * p) (omega (arith, own, room n less, length-spread f w long n))
          ∙ ap (λ (r : List ℕ). r ++ f n) (within less)
          ∙ ap (λ (r : List ℕ). spread g n ++ r) (sym (others n (λ q. e (sym q))))

slots_set : (l : List Slot) (p : ℕ) (s : Slot) → length l ≡ 96 → p < 96 → put (3 * p) (slot_words s) (slots_words l) ≡ slots_words (set l p s)
unfolding slots_words
slots_set l p s n h =
    ap (λ (x : Slot). put (3 * p) (slot_words x) (slots_words l)) (sym (get_or-set_same l p s empty_slot (omega (arith, n))))
    ∙ spread_set (λ (i : ℕ). slot_words (slot_at l i)) (λ (i : ℕ). slot_words (slot_at (set l p s) i)) 3 p (λ (j : ℕ). refl) refl
    (λ (j : ℕ) (o : j ≢ p). ap slot_words (get_or-set_other l p j s empty_slot o))
    (λ (m : ℕ) (k : p < m). omega arith) 96 h

used_set : (l : List ℕ) (p n : ℕ) → length l ≡ 96 → p < 96 → put p (n ∷ []) (used_words l) ≡ used_words (set l p n)
unfolding used_words
used_set l p n e h =
    let far : p ≡ 1 * p = omega arith in
    ap (λ (k : ℕ). put k (n ∷ []) (used_words l)) far
    ∙ ap (λ (x : ℕ). put (1 * p) (x ∷ []) (used_words l)) (sym (get_or-set_same l p n 0 (omega (arith, e))))
    ∙ spread_set (λ (i : ℕ). get_or l i 0 ∷ []) (λ (i : ℕ). get_or (set l p n) i 0 ∷ []) 1 p (λ (j : ℕ). refl) refl
    (λ (j : ℕ) (o : j ≢ p). ap {B = List ℕ} (λ (x : ℕ). x ∷ []) (get_or-set_other l p j n 0 o))
    (λ (m : ℕ) (k : p < m). omega arith) 96 h

-- ---- one slot, one age

-- a slot's words stored one by one
pub three_put : (ws : List ℕ) (p a b c : ℕ) → p < 96 → length ws ≡ 1150
    → set (set (set ws (15 + 3 * p) a) (16 + 3 * p) b) (17 + 3 * p) c ≡ put (15 + 3 * p) (a ∷ b ∷ c ∷ []) ws
three_put ws p a b c h n =
    let at : ℕ = 15 + 3 * p in
    let second : 16 + 3 * p ≡ at + 1 = omega arith in
    let third : 17 + 3 * p ≡ at + 2 = omega arith in
    let long : length (set ws at a) ≡ 1150 = length-set ws at a ∙ n in
    let longer : length (set (set ws at a) (at + 1) b) ≡ 1150 = length-set (set ws at a) (at + 1) b ∙ long in
    rw (second, third)
    (set-put (set (set ws at a) (at + 1) b) (at + 2) c (omega (arith, longer, h))
    ∙ ap
    (put (at + 2) (c ∷ []))
    (set-put (set ws at a) (at + 1) b (omega (arith, long, h))
    ∙ ap (put (at + 1) (b ∷ [])) (set-put ws at a (omega (arith, n, h)))
    ∙ put_after at 1 (a ∷ []) (b ∷ []) ws refl (omega (arith, n, h)))
    ∙ put_after at 2 (a ∷ b ∷ []) (c ∷ []) ws refl (omega (arith, n, h)))

abbrev pub with_used : List ℕ → Pages → Pages
with_used u g = record { slots = g.slots; used = u; count = g.count; clock = g.clock }

pub three_long : (ws : List ℕ) (i j k a b c : ℕ) → length (set (set (set ws i a) j b) k c) ≡ length ws
three_long ws i j k a b c = length-set (set (set ws i a) j b) k c ∙ length-set (set ws i a) j b ∙ length-set ws i a

module _ (e : Engine) (p : ℕ) (h : p < 96) where
  abbrev pages : Pages
  pages = e.shared.cache.pages

  abbrev counts : List ℕ
  counts = low_word pages.count ∷ pages.clock ∷ []

  pages_slot : (s : Slot) → length pages.slots ≡ 96 → put (3 * p) (slot_words s) (pages_words pages) ≡ pages_words (with_slots (set pages.slots p s) pages)
  unfolding pages_words
  pages_slot s n =
      put_inside (slot_words s) (slots_words pages.slots) (used_words pages.used ++ counts) (3 * p) (omega (arith, slots_long pages.slots))
      ∙ ap (λ (r : List ℕ). r ++ (used_words pages.used ++ counts)) (slots_set pages.slots p s n h)

  pages_age : (n : ℕ) → length pages.used ≡ 96 → put (288 + p) (n ∷ []) (pages_words pages) ≡ pages_words (with_used (set pages.used p n) pages)
  unfolding pages_words
  pages_age n l =
      put_behind (n ∷ []) (slots_words pages.slots) (used_words pages.used ++ counts) (288 + p) p (omega (arith, slots_long pages.slots))
      ∙ ap
      (λ (r : List ℕ). slots_words pages.slots ++ r)
      (put_inside (n ∷ []) (used_words pages.used) counts p (omega (arith, used_long pages.used))
      ∙ ap (λ (r : List ℕ). r ++ counts) (used_set pages.used p n l h))

  pub slot_put : (s : Slot) → length pages.slots ≡ 96 → put (15 + 3 * p) (slot_words s) (words e) ≡ words (with_pages e (with_slots (set pages.slots p s) pages))
  slot_put s n = in_held_pages e (slot_words s) 3 refl (with_slots (set pages.slots p s) pages) (15 + 3 * p) (3 * p) (omega arith) (omega arith) (pages_slot s n)

  pub age_put : (n : ℕ) → length pages.used ≡ 96 → put (303 + p) (n ∷ []) (words e) ≡ words (with_pages e (with_used (set pages.used p n) pages))
  age_put n l = in_held_pages e (n ∷ []) 1 refl (with_used (set pages.used p n) pages) (303 + p) (288 + p) (omega arith) (omega arith) (pages_age n l)

-- ---- where the pages stand, and what stands behind them

module _ (e : Engine) where
  abbrev closing : List (List ℕ)
  closing = pending_words e.shared.cache.pending ∷ (e.shared.cache.loads ∷ []) ∷ []

  abbrev behind : List (List ℕ)
  behind = ring_words e.shared.cache.missing ∷ loading_words e.shared.cache.loading ∷ closing

  abbrev rest : List ℕ
  rest = flat behind ++ (follower_words e.follower ++ [])

  cache_there : drop 15 (words e) ≡ cache_words e.shared.cache ++ (follower_words e.follower ++ [])
  unfolding words shared_words
  cache_there =
      let zs : List ℕ = follower_words e.follower ++ [] in
      ap (λ (r : List ℕ). r ++ zs) (append-nil (cache_words e.shared.cache))

  pages_there : drop 15 (words e) ≡ pages_words e.shared.cache.pages ++ rest
  unfolding cache_words
  pages_there = here (words e) 15 (pages_words e.shared.cache.pages) behind (follower_words e.follower ++ []) cache_there

  rest_there : drop 401 (words e) ≡ rest
  unfolding cache_words
  rest_there = next (words e) 15 (pages_words e.shared.cache.pages) behind (follower_words e.follower ++ []) cache_there 386 (pages_long e.shared.cache.pages)

  pub loading_there : get_or (words e) 530 0 ≡ get_or (loading_words e.shared.cache.loading ++ (flat closing ++ (follower_words e.follower ++ []))) 0 0
  loading_there =
      let zs : List ℕ = follower_words e.follower ++ [] in
      let load : List ℕ = loading_words e.shared.cache.loading in
      let there = next (words e) 401 (ring_words e.shared.cache.missing) (load ∷ closing) zs rest_there 129 (ring_long e.shared.cache.missing) in
      at_is (words e) 530 (load ++ (flat closing ++ zs)) (here (words e) 530 load closing zs there) 0

  pub pages_read : PagesBack e.shared.cache.pages → pages_of (words e) 15 ≡ e.shared.cache.pages
  pages_read b = pages_back e.shared.cache.pages b (words e) rest pages_there

-- ---- all but the pages is read as before

-- the same from the 401st word on
module _ (ws us : List ℕ) (same : (at : ℕ) → 401 ≤ at → from ws at ≡ from us at) where
  ring_same : ring_of ws 401 ≡ ring_of us 401
  unfolding ring_of
  ring_same = λ i. record { keys = table (λ (j : ℕ). place_by (same (401 + 2 * j) (omega arith) i)) 64; next = same 401 (omega arith) i 128 }

  places_same : places_of ws 544 ≡ places_of us 544
  unfolding places_of
  places_same = λ i. record { v = table (λ (j : ℕ). point_by (same (544 + 2 * j) (omega arith) i)) 16; len = same 544 (omega arith) i 32 }

  sight_same : sight_of ws 539 ≡ sight_of us 539
  unfolding sight_of
  sight_same = λ i. record {
    fix = fix_by (same 539 (omega arith) i);
    history = places_same i;
    heading = heading_of (same 539 (omega arith) i 38) (same 539 (omega arith) i 39);
    heading_at = long_of (same 539 (omega arith) i 40) (same 539 (omega arith) i 41);
  }

  matcher_same : matcher_of ws 581 ≡ matcher_of us 581
  unfolding matcher_of
  matcher_same = λ i. record {
    current = current_by (same 581 (omega arith) i);
    challenger = challenger_by (same 595 (omega arith) i);
    misses = same 581 (omega arith) i 20 % 256;
    run_from_m = float_of (same 581 (omega arith) i 21);
  }

  due_same : due_of ws 603 ≡ due_of us 603
  unfolding due_of
  due_same = λ i. let w = same 603 (omega arith) i in record {
    matching = is_set (w 0);
    road = is_set (w 1);
    last_road = time_of (w 2) (w 3) (w 4);
    need = maybe_key_of (w 5) (w 6);
    reloads = w 7 % 65536;
  }

  ahead_same : ahead_of ws 611 ≡ ahead_of us 611
  unfolding ahead_of heights_of
  ahead_same = λ i. let w = same 611 (omega arith) i in record {
    generation = w 0;
    at_ms = long_of (w 1) (w 2);
    matched = current_by (same 614 (omega arith) i);
    start_z_dm = signed32 (w 17);
    samples = table (λ (j : ℕ). height_of (same 629 (omega arith) i j)) 501;
    len = w 519;
    behind = table (λ (j : ℕ). height_of (same 1131 (omega arith) i j)) 11;
    behind_len = w 531;
    behind_m = float_of (w 532);
    end = end_of (w 533);
    end_m = float_of (w 534);
    confidence = w 535 % 256;
  }

  follower_same : follower_of ws ≡ follower_of us
  unfolding follower_of
  follower_same = λ i. let w = same 1147 (omega arith) i in record {
    sight = sight_same i;
    matcher = matcher_same i;
    due = due_same i;
    ahead = ahead_same i;
    failures = w 0 % 256;
    horizon_m = float_of (w 1);
    steps = w 2;
  }

  cache_same : cache_of ws 15 ≡ record {
    pages = pages_of ws 15;
    missing = ring_of us 401;
    loading = loading_by (from us 530);
    pending = pending_of (from us 15 521) (from us 15 522);
    loads = from us 15 523;
  }
  unfolding cache_of
  cache_same = λ i. let w = same 536 (omega arith) i in record {
    pages = pages_of ws 15;
    missing = ring_same i;
    loading = loading_by (same 530 (omega arith) i);
    pending = pending_of (w 0) (w 1);
    loads = w 2;
  }

module _ (e : Engine) (g : Pages) (b : PagesBack g) where
  abbrev ws₁ : List ℕ
  ws₁ = words (with_pages e g)

  rest_same : (at : ℕ) → 401 ≤ at → from ws₁ at ≡ from (words e) at
  rest_same at h =
      fun_ext
      (λ (k : ℕ).
      let far : at + k ≡ 401 + (at - 401 + k) = omega (arith, h) in
      rw far
      (at_is ws₁ 401 (rest e) (rest_there (with_pages e g)) (at - 401 + k)
      ∙ sym (at_is (words e) 401 (rest e) (rest_there e) (at - 401 + k))))

  shared_same : shared_of ws₁ ≡ record { phase = (shared_of (words e)).phase; header = (shared_of (words e)).header; cache = cache_of ws₁ 15 }
  unfolding shared_of words shared_words
  shared_same = refl

  cache_again : cache_of ws₁ 15 ≡ record {
    pages = g;
    missing = (cache_of (words e) 15).missing;
    loading = (cache_of (words e) 15).loading;
    pending = (cache_of (words e) 15).pending;
    loads = (cache_of (words e) 15).loads;
  }
  unfolding cache_of
  cache_again = cache_same ws₁ (words e) rest_same ∙ ap (λ (x : Pages). Sets.with_pages (cache_of (words e) 15) x) (pages_read (with_pages e g) b)

  engine_again : engine_of ws₁ ≡ with_pages (engine_of (words e)) g
  unfolding engine_of shared_of
  engine_again =
      let shared = shared_same ∙ ap (λ (c : Cache). Sets.with_cache_in (shared_of (words e)) c) cache_again in
      λ i. record { shared = shared i; follower = follower_same ws₁ (words e) rest_same i }

  -- words with other pages
  pub pages_again : engine_of (words e) ≡ e → engine_of ws₁ ≡ with_pages e g
  pages_again own = engine_again ∙ ap (λ (x : Engine). with_pages x g) own

  pub accepted_again : engine_of (words e) ≡ e → accepted ws₁ ≡ true
  unfolding accepted
  accepted_again own = rw (pages_again own) (same_self ws₁)

-- ---- the pages of accepted words are read back

used_size : (ws : List ℕ) → length (pages_of ws 15).used ≡ 96
unfolding pages_of
used_size ws = length-table (λ (i : ℕ). get_or ws (303 + i) 0) 96

module _ (ws : List ℕ) (h : accepted ws ≡ true) where
  abbrev e₀ : Engine
  e₀ = engine_of ws

  abbrev g₀ : Pages
  g₀ = pages_of ws 15

  abbrev counted : List ℕ
  counted = low_word g₀.count ∷ g₀.clock ∷ []

  pub engine_own : engine_of (words e₀) ≡ e₀
  engine_own = ap engine_of (words_engine ws h)

  stands : drop 15 ws ≡ pages_words g₀ ++ rest e₀
  unfolding engine_of shared_of cache_of
  stands = ap (drop 15) (sym (words_engine ws h)) ∙ pages_there e₀

  slots_stand : drop 15 ws ≡ slots_words g₀.slots ++ (flat (used_words g₀.used ∷ counted ∷ []) ++ rest e₀)
  unfolding pages_words
  slots_stand = here ws 15 (slots_words g₀.slots) (used_words g₀.used ∷ counted ∷ []) (rest e₀) stands

  counts_stand : drop 399 ws ≡ counted ++ rest e₀
  unfolding pages_words
  counts_stand =
      let used : drop 303 ws ≡ flat (used_words g₀.used ∷ counted ∷ []) ++ rest e₀ =
      next ws 15 (slots_words g₀.slots) (used_words g₀.used ∷ counted ∷ []) (rest e₀) stands 288 (slots_long g₀.slots) in
      next ws 303 (used_words g₀.used) (counted ∷ []) (rest e₀) used 96 (used_long g₀.used)

  slot_word : (i k : ℕ) → i < 96 → k < 3 → get_or (slot_words (slot_at g₀.slots i)) k 0 ≡ from ws (15 + 3 * i) k
  unfolding slots_words
  slot_word i k l m =
      sym (word_of (λ (j : ℕ). slot_words (slot_at g₀.slots j)) 3 (λ (j : ℕ). refl) ws 15 96 (flat (used_words g₀.used ∷ counted ∷ []) ++ rest e₀) slots_stand i k l m)

  pub own_pages : PagesBack g₀
  own_pages = record {
    slots = slots_size ws 15;
    slot = λ (i : ℕ) (l : i < 96).
        slot_by_lem (λ (k : ℕ). get_or (slot_words (slot_at g₀.slots i)) k 0) (from ws (15 + 3 * i))
        (slot_word i 0 l (omega arith)) (slot_word i 1 l (omega arith)) (slot_word i 2 l (omega arith))
        ∙ sym (slot_at_lem ws 15 i l);
    used = used_size ws;
    count = sym (at_is ws 399 (counted ++ rest e₀) counts_stand 0) ∙ sym (count_is ws 15);
  }
