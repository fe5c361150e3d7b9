-- Pages and ring read where they stand among the words: which slot and which key stand at a place (`slot_at_lem`, `place_at`), and each test of them as a test of their words (`held_key`,
-- `ready_is`, `run_is`, `loads_is`). A key's word has row and column, so equal words are equal keys (`same_key`). Then the searches of `in_ring` and `ready_at` by word (`ring_is`,
-- `ready_at_is`); what `page_ok` asks of a page's words (`page_asks`), and the turn of `pages_ok` (`page_fails`, `slots_more`, `turn_run`, `turn_on`).
use Rattle.std.specs.Prelude.{Option, Some, None, is_some}
use Rattle.std.proofs.Common.{◌≡◌, ℕ, ◌+◌, ◌-◌, ◌*◌, ◌/◌, ◌%◌, ◌<◌, ◌≤◌, Bool, true, false, cond, not, ◌&&◌, ◌||◌, eqb, ltb, leb, List, length, get_or, sym, refl, ap, ◌∙◌, true≢false, add-zero, add-one, arith, ltb-false, ltb-true, lt-ltb, eq-eqb, ne_eqb, eqb-true, leb-false, leb-true}
use mathlib.Core.Bool.{and-true, and-false}
use lib.ListN.{get_or-eq_default}
use borrow.Author.Tests.{eqb-false, not-true}
use Rattle.pack.specs.declared.TileKey.{TileKey}
use Rattle.cache.specs.Keys.{same_key, holds, empty_place, key_at, in_ring, is_ready, ready_at}
use Rattle.cache.specs.Pass.{fits_by, fits, after}
use Rattle.cache.specs.Runs.{empty_slot, slot_at, kind_by, kind_of, is_run, span, runs_ok}
use Rattle.cache.specs.Search.{or_else, lowest}
use Rattle.cache.specs.State.{tile_loads}
use Rattle.cache.specs.declared.Loading.{Loading}
use Rattle.cache.specs.declared.Part.{Part}
use Rattle.cache.specs.declared.Slot.{Slot}
use Rattle.cache.proofs.PassLaws.{Passed, passed, pass_fails}
use Rattle.cache.proofs.SearchLaws.{lowest_same}
use Rattle.tile.proofs.Laws.{all_more, all_miss}
use Rattle.words.specs.Held.{held_at, slot_held, slots_held}
use Rattle.words.specs.Words.{from, bit, is_set, key_word, key_of, key_tag, key_held, maybe_key_of, part_word, part_of, slot_by, place_by, pages_of, ring_of}
use Rattle.words.proofs.ArrayLaws.{length-table}
use Rattle.words.proofs.SameLaws.{both}
use Rattle.words.proofs.TripLaws.{table_at}

-- ---- at a place

module _ (ws : List ℕ) (at : ℕ) where
  pub slots_size : length (pages_of ws at).slots ≡ 96
  unfolding pages_of
  slots_size = length-table (λ (i : ℕ). slot_by (from ws (at + 3 * i))) 96

  pub slot_at_lem : (i : ℕ) → i < 96 → slot_at (pages_of ws at).slots i ≡ slot_by (from ws (at + 3 * i))
  unfolding pages_of
  slot_at_lem i h = table_at (λ (j : ℕ). slot_by (from ws (at + 3 * j))) empty_slot 96 i h

  pub slot_past : (i : ℕ) → 96 ≤ i → slot_at (pages_of ws at).slots i ≡ empty_slot
  slot_past i h = get_or-eq_default (pages_of ws at).slots empty_slot {n = i} (omega (arith, slots_size, h))

  pub count_is : (pages_of ws at).count ≡ from ws at 384
  unfolding pages_of
  count_is = refl

  pub next_is : (ring_of ws at).next ≡ from ws at 128
  unfolding ring_of
  next_is = refl

  pub place_at : (i : ℕ) → i < 64 → key_at (ring_of ws at) i ≡ maybe_key_of (from ws (at + 2 * i) 0) (from ws (at + 2 * i) 1)
  unfolding ring_of
  place_at i h = ap (λ (p : Option TileKey). p) (table_at (λ (j : ℕ). place_by (from ws (at + 2 * j))) empty_place 64 i h)

-- ---- tests

and_not : (a b : Bool) → (a ≡ true → b ≡ true → ⊥) → (a && b) ≡ false
and_not true true f = absurd (f refl refl)
and_not true false f = refl
and_not false b f = refl

and_shift : (a b c : Bool) → (a && (b && c)) ≡ ((a && b) && c)
and_shift true b c = refl
and_shift false b c = refl

-- one place more was looked at
pub found_more : (p : ℕ → Bool) (i : ℕ) → is_some (lowest p (i + 1)) ≡ (is_some (lowest p i) || p i)
unfolding lowest
found_more p i = rw add-one (by (lowest p i) (p i))
  where
    by : (x : Option ℕ) (t : Bool) → is_some (or_else x (cond t (Some i) None)) ≡ (is_some x || t)
    by (Some j) t = refl
    by None true = refl
    by None false = refl

-- ---- keys

pub same_key_lem : (n : ℕ) (key : TileKey) → key.col < 65536 → same_key (key_of n) key ≡ eqb n (key_word key)
same_key_lem n key h = by (eqb n (key_word key)) refl
  where
    by : (t : Bool) → eqb n (key_word key) ≡ t → same_key (key_of n) key ≡ t
    by true e =
        let q : n ≡ key_word key = eqb-true n (key_word key) e in
        let row : n / 65536 ≡ key.row = omega (arith, q, h) in
        let col : n % 65536 ≡ key.col = omega (arith, q, h) in
        rw (eq-eqb (n / 65536) key.row row, eq-eqb (n % 65536) key.col col)
    by false e =
        and_not (eqb (n / 65536) key.row) (eqb (n % 65536) key.col)
        (λ a b. eqb-false n (key_word key) e (omega (arith, eqb-true (n / 65536) key.row a, eqb-true (n % 65536) key.col b)))

pub held_key : (tag n : ℕ) (key : TileKey) → key.col < 65536 → holds (maybe_key_of tag n) key ≡ (eqb tag 1 && eqb n (key_word key))
held_key tag n key h = by (eqb tag 1)
  where
    by : (t : Bool) → holds (cond t (Some (key_of n)) None) key ≡ (t && eqb n (key_word key))
    by true = same_key_lem n key h
    by false = refl

-- ---- slots

-- key and mark
pub both_bits : (n : ℕ) → (eqb (n / 2 % 2) 1 && eqb (n % 2) 1) ≡ eqb (n % 4) 3
both_bits n = by (eqb (n % 4) 3) refl
  where
    by : (t : Bool) → eqb (n % 4) 3 ≡ t → (eqb (n / 2 % 2) 1 && eqb (n % 2) 1) ≡ t
    by true e =
        let q : n % 4 ≡ 3 = eqb-true (n % 4) 3 e in
        rw (eq-eqb (n / 2 % 2) 1 (omega (arith, q)), eq-eqb (n % 2) 1 (omega (arith, q)))
    by false e =
        and_not (eqb (n / 2 % 2) 1) (eqb (n % 2) 1)
        (λ a b. eqb-false (n % 4) 3 e (omega (arith, eqb-true (n / 2 % 2) 1 a, eqb-true (n % 2) 1 b)))

-- a first page with a key and no mark
one_bit : (n : ℕ) → ((eqb (n / 4) 0 && eqb (n % 2) 1) && not (eqb (n / 2 % 2) 1)) ≡ eqb n 1
one_bit n = by (eqb n 1) refl
  where
    by : (t : Bool) → eqb n 1 ≡ t → ((eqb (n / 4) 0 && eqb (n % 2) 1) && not (eqb (n / 2 % 2) 1)) ≡ t
    by true e = let q : n ≡ 1 = eqb-true n 1 e in rw q
    by false e =
        and_not (eqb (n / 4) 0 && eqb (n % 2) 1) (not (eqb (n / 2 % 2) 1))
        (λ a b.
        let first : (eqb (n / 4) 0 ≡ true) × (eqb (n % 2) 1 ≡ true) = both (eqb (n / 4) 0) (eqb (n % 2) 1) a in
        let unmarked : n / 2 % 2 ≡ 1 → ⊥ = eqb-false (n / 2 % 2) 1 (not-true _ b) in
        eqb-false n 1 e (omega (arith, eqb-true (n / 4) 0 first.0, eqb-true (n % 2) 1 first.1, unmarked)))

pub run_is : (w : ℕ → ℕ) → is_run (kind_of (slot_by w)) ≡ (eqb (w 0 / 4) 0 && eqb (w 0 % 2) 1)
run_is w = by (eqb (w 0 / 4) 0) (eqb (w 0 % 2) 1)
  where
    by : (a b : Bool)
        → is_run (kind_by (cond a Part.Head (Part.Of ((w 0 / 4 - 1) % 256))) (cond b (Some (key_of (w 1))) None)) ≡ (a && b)
    by true true = refl
    by true false = refl
    by false b = refl

module _ (w : ℕ → ℕ) (key : TileKey) (h : key.col < 65536) where
  pub ready_is : is_ready key (slot_by w) ≡ (eqb (w 0 % 4) 3 && eqb (w 1) (key_word key))
  unfolding is_ready
  ready_is =
      ap (λ (t : Bool). eqb (w 0 / 2 % 2) 1 && t) (held_key (w 0 % 2) (w 1) key h)
      ∙ and_shift (eqb (w 0 / 2 % 2) 1) (eqb (w 0 % 2) 1) (eqb (w 1) (key_word key))
      ∙ ap (λ (t : Bool). t && eqb (w 1) (key_word key)) (both_bits (w 0))

-- a run, its key, its length, its mark and the rest, with the mark tested first
mark_first : (a b x y r z : Bool) → ((a && b) && ((b && x) && (y && (not r && z)))) ≡ (((a && b) && not r) && (x && (y && z)))
mark_first false b x y r z = refl
mark_first true false x y r z = refl
mark_first true true x y false z = refl
mark_first true true false y true z = refl
mark_first true true true false true z = refl
mark_first true true true true true z = refl

-- the load of a page below 96, by the page's words
pub loads_is : (ws : List ℕ) (at : ℕ) (l : Loading) → l.slot < 96 → l.key.col < 65536
    → tile_loads (pages_of ws at) l
    ≡ (eqb (from ws (at + 3 * l.slot) 0) 1
    && (eqb (from ws (at + 3 * l.slot) 1) (key_word l.key) && (eqb (from ws (at + 3 * l.slot) 2 % 65536) l.len && ltb l.done l.len)))
unfolding tile_loads
loads_is ws at l h k =
    let w : ℕ → ℕ = from ws (at + 3 * l.slot) in
    rw (slot_at_lem ws at l.slot h, run_is w, held_key (w 0 % 2) (w 1) l.key k, ← one_bit (w 0))
    (mark_first (eqb (w 0 / 4) 0) (eqb (w 0 % 2) 1) (eqb (w 1) (key_word l.key)) (eqb (w 2 % 65536) l.len) (eqb (w 0 / 2 % 2) 1) (ltb l.done l.len))

-- past the last page stands no run
pub loads_past : (ws : List ℕ) (at : ℕ) (l : Loading) → 96 ≤ l.slot → tile_loads (pages_of ws at) l ≡ false
unfolding tile_loads
loads_past ws at l h = rw (slot_past ws at l.slot h)

-- ---- the searches

-- the place j of the ring holds the key of this word
abbrev pub place_in : List ℕ → ℕ → ℕ → Bool
place_in ws word j = eqb (get_or ws (401 + 2 * j) 0) 1 && eqb (get_or ws (402 + 2 * j) 0) word

-- page j starts a ready run of the key of this word
abbrev pub ready_in : List ℕ → ℕ → ℕ → Bool
ready_in ws word j = ltb j 96 && (eqb (get_or ws (15 + 3 * j) 0 % 4) 3 && eqb (get_or ws (16 + 3 * j) 0) word)

module _ (ws : List ℕ) (key : TileKey) (h : key.col < 65536) where
  place_is : (i : ℕ) → i < 64 → holds (key_at (ring_of ws 401) i) key ≡ place_in ws (key_word key) i
  place_is i l =
      let next : 401 + 2 * i + 1 ≡ 402 + 2 * i = omega arith in
      ap (λ (m : Option TileKey). holds m key) (place_at ws 401 i l)
      ∙ held_key (from ws (401 + 2 * i) 0) (from ws (401 + 2 * i) 1) key h
      ∙ rw (add-zero (401 + 2 * i), next)

  pub ring_is : {word : ℕ} → word ≡ key_word key → in_ring (ring_of ws 401) key ≡ is_some (lowest (place_in ws word) 64)
  unfolding in_ring
  ring_is e =
      rw e
      (ap is_some (lowest_same (λ (i : ℕ). holds (key_at (ring_of ws 401) i) key) (place_in ws (key_word key)) 64 place_is))

  page_is : (i : ℕ) → is_ready key (slot_at (pages_of ws 15).slots i) ≡ ready_in ws (key_word key) i
  unfolding is_ready
  page_is i = by (ltb i 96) refl
    where
      by : (t : Bool) → ltb i 96 ≡ t
          → is_ready key (slot_at (pages_of ws 15).slots i) ≡ (t && (eqb (get_or ws (15 + 3 * i) 0 % 4) 3 && eqb (get_or ws (16 + 3 * i) 0) (key_word key)))
      by true e =
          let next : 15 + 3 * i + 1 ≡ 16 + 3 * i = omega arith in
          ap (is_ready key) (slot_at_lem ws 15 i (ltb-true i 96 e)) ∙ ready_is (from ws (15 + 3 * i)) key h ∙ rw (add-zero (15 + 3 * i), next)
      by false e = ap (is_ready key) (slot_past ws 15 i (ltb-false i 96 e))

  pub ready_at_is : {word n : ℕ} → word ≡ key_word key → n ≡ get_or ws 399 0 → ready_at (pages_of ws 15) key ≡ lowest (ready_in ws word) n
  unfolding ready_at
  ready_at_is {n = n} e c =
      rw (e, count_is ws 15, ← c)
      (lowest_same (λ (i : ℕ). is_ready key (slot_at (pages_of ws 15).slots i)) (ready_in ws (key_word key)) n (λ (i : ℕ) (l : i < n). page_is i))

-- ---- one page

-- key and mark of a slot's first word, as they are read and written again
low_bits : (tag key : ℕ) → key_tag (maybe_key_of (tag % 2) key) + 2 * bit (is_set (tag / 2 % 2)) ≡ tag % 4
low_bits tag key = by (eqb (tag % 2) 1) (eqb (tag / 2 % 2) 1) refl refl
  where
    by : (a b : Bool) → eqb (tag % 2) 1 ≡ a → eqb (tag / 2 % 2) 1 ≡ b → key_tag (cond a (Some (key_of key)) None) + 2 * bit b ≡ tag % 4
    by true true e f = omega (arith, eqb-true (tag % 2) 1 e, eqb-true (tag / 2 % 2) 1 f)
    by true false e f = omega (arith, eqb-true (tag % 2) 1 e, eqb-false (tag / 2 % 2) 1 f)
    by false true e f = omega (arith, eqb-false (tag % 2) 1 e, eqb-true (tag / 2 % 2) 1 f)
    by false false e f = omega (arith, eqb-false (tag % 2) 1 e, eqb-false (tag / 2 % 2) 1 f)

-- the part is at most 256
first_held : (tag : ℕ) → eqb (tag % 4 + 4 * part_word (part_of (tag / 4))) tag ≡ ltb tag 1028
first_held tag = by (eqb (tag / 4) 0) (ltb tag 1028) refl refl
  where
    by : (a b : Bool) → eqb (tag / 4) 0 ≡ a → ltb tag 1028 ≡ b
        → eqb (tag % 4 + 4 * part_word (cond a Part.Head (Part.Of ((tag / 4 - 1) % 256)))) tag ≡ b
    by true true e f = eq-eqb _ tag (omega (arith, eqb-true (tag / 4) 0 e))
    by true false e f = absurd (omega (arith, eqb-true (tag / 4) 0 e, ltb-false tag 1028 f))
    by false true e f = eq-eqb _ tag (omega (arith, eqb-false (tag / 4) 0 e, ltb-true tag 1028 f))
    by false false e f = ne_eqb _ tag (λ q. omega (arith, q, ltb-false tag 1028 f))

-- a key is its word, and none is 0
key_held_lem : (t : Bool) (key : ℕ) → eqb (key_held (cond t (Some (key_of key)) None)) key ≡ (t || eqb key 0)
key_held_lem true key = eq-eqb (key / 65536 * 65536 + key % 65536) key (omega arith)
key_held_lem false key = by (eqb key 0) refl
  where
    by : (t : Bool) → eqb key 0 ≡ t → eqb 0 key ≡ t
    by true e = eq-eqb 0 key (sym (eqb-true key 0 e))
    by false e = ne_eqb 0 key (λ q. eqb-false key 0 e (sym q))

len_held : (len : ℕ) → eqb (len % 65536) len ≡ leb len 65535
len_held len = by (leb len 65535) refl
  where
    by : (t : Bool) → leb len 65535 ≡ t → eqb (len % 65536) len ≡ t
    by true e = eq-eqb (len % 65536) len (omega (arith, leb-true len 65535 e))
    by false e = ne_eqb (len % 65536) len (λ q. omega (arith, q, leb-false len 65535 e))

-- whether three words are a slot's
slot_held_lem : (ws : List ℕ) (at : ℕ)
    → slot_held ws at
    ≡ (ltb (get_or ws at 0) 1028 && ((eqb (get_or ws at 0 % 2) 1 || eqb (get_or ws (at + 1) 0) 0) && leb (get_or ws (at + 2) 0) 65535))
unfolding held_at
slot_held_lem ws at =
    let third : at + 1 + 1 ≡ at + 2 = omega arith in
    rw (add-zero at, third, low_bits (get_or ws at 0) (get_or ws (at + 1) 0), first_held (get_or ws at 0), key_held_lem (eqb (get_or ws at 0 % 2) 1) (get_or ws (at + 1) 0), len_held (get_or ws (at + 2) 0), and-true)

first_page : (tag : ℕ) → eqb (tag / 4) 0 ≡ ltb tag 4
first_page tag = by (ltb tag 4) refl
  where
    by : (t : Bool) → ltb tag 4 ≡ t → eqb (tag / 4) 0 ≡ t
    by true e = eq-eqb (tag / 4) 0 (omega (arith, ltb-true tag 4 e))
    by false e = ne_eqb (tag / 4) 0 (λ q. omega (arith, q, ltb-false tag 4 e))

-- what the pass asks of a slot, by its words: an odd tag has a key, one below 4 is a first page's
module _ (w : ℕ → ℕ) (p head end n : ℕ) where
  abbrev slot_for : Bool → Bool → Slot
  slot_for a b = record {
    key = cond b (Some (key_of (w 1))) None;
    len = w 2 % 65536;
    ready = is_set (w 0 / 2 % 2);
    part = cond a Part.Head (Part.Of ((w 0 / 4 - 1) % 256));
  }

  abbrev fits_for : Bool → Bool → Bool
  fits_for a b =
      cond b ((a && leb end p) && leb (p + span (w 2 % 65536)) n)
      (cond a (leb end p) (ltb p end && eqb ((w 0 / 4 - 1) % 256) head))

  fits_for_lem : (a b : Bool) → fits_by (kind_of (slot_for a b)) (slot_for a b) p (record { head = head; end = end }) n ≡ fits_for a b
  fits_for_lem true true = refl
  fits_for_lem true false = refl
  fits_for_lem false true = refl
  fits_for_lem false false = refl

  fits_is : fits (slot_by w) p (record { head = head; end = end }) n ≡ fits_for (ltb (w 0) 4) (eqb (w 0 % 2) 1)
  unfolding fits
  fits_is = rw (first_page (w 0)) (fits_for_lem (ltb (w 0) 4) (eqb (w 0 % 2) 1))

  -- an odd tag of a page that fits is a first page's
  odd_first : (a b : Bool) → fits_for a b ≡ true → (a && b) ≡ b
  odd_first true b e = refl
  odd_first false true e = absurd (true≢false (sym e))
  odd_first false false e = refl

  fits_run : fits (slot_by w) p (record { head = head; end = end }) n ≡ true → is_run (kind_of (slot_by w)) ≡ eqb (w 0 % 2) 1
  fits_run e = run_is w ∙ rw (first_page (w 0)) (odd_first (ltb (w 0) 4) (eqb (w 0 % 2) 1) (sym fits_is ∙ e))

-- a part that is the last run's head below 96 is at most 256
piece_is : (tag head : ℕ) → head < 96 → ltb tag 4 ≡ false → (ltb tag 1028 && eqb ((tag / 4 - 1) % 256) head) ≡ eqb (tag / 4) (head + 1)
piece_is tag head h g = by (eqb (tag / 4) (head + 1)) refl
  where
    by : (t : Bool) → eqb (tag / 4) (head + 1) ≡ t → (ltb tag 1028 && eqb ((tag / 4 - 1) % 256) head) ≡ t
    by true e =
        let q : tag / 4 ≡ head + 1 = eqb-true (tag / 4) (head + 1) e in
        rw (lt-ltb tag 1028 (omega (arith, q, h)), eq-eqb ((tag / 4 - 1) % 256) head (omega (arith, q, h)))
    by false e =
        and_not (ltb tag 1028) (eqb ((tag / 4 - 1) % 256) head)
        (λ a b.
        eqb-false (tag / 4) (head + 1) e
        (omega (arith, ltb-true tag 1028 a, eqb-true ((tag / 4 - 1) % 256) head b, ltb-false tag 4 g)))

-- the two tests as one, of a length a up to 65,535, an odd tag o, a key's word z of 0, a tag f below 4 and the run's end e
as_one : (a o z f e x y c d g u : Bool) → (a ≡ true → x ≡ y) → (f ≡ true → c ≡ true) → (f ≡ false → (c && d) ≡ g)
    → ((c && ((o || z) && a)) && cond o ((f && e) && x) (cond f e (u && d))) ≡ (a && cond o ((f && e) && y) (z && cond f e (u && g)))
as_one false o z f e x y c d g u r s t = rw (and-false (o || z), and-false c)
as_one true true z true e x y c d g u r s t = rw (r refl, s refl)
as_one true true z false e x y c d g u r s t = and-false (c && true)
as_one true false false f e x y c d g u r s t = rw (and-false c)
as_one true false true true e x y c d g u r s t = rw (s refl)
as_one true false true false e x y c d g true r s t = rw (and-true c) (t refl)
as_one true false true false e x y c d g false r s t = and-false (c && true)

-- what the code asks of a page's three words
abbrev pub page_by : ℕ → ℕ → ℕ → ℕ → ℕ → ℕ → ℕ → Bool
page_by tag key len p head end n =
    leb len 65535
    && cond (eqb (tag % 2) 1) ((ltb tag 4 && leb end p) && leb (p + span len) n)
    (eqb key 0 && cond (ltb tag 4) (leb end p) (ltb p end && eqb (tag / 4) (head + 1)))

pub page_asks : (ws : List ℕ) (at p head end n : ℕ) → head < 96
    → (slot_held ws at && fits (slot_by (from ws at)) p (record { head = head; end = end }) n) ≡ page_by (get_or ws at 0) (get_or ws (at + 1) 0) (get_or ws (at + 2) 0) p head end n
page_asks ws at p head end n h =
    let tag : ℕ = get_or ws at 0 in
    let len : ℕ = get_or ws (at + 2) 0 in
    rw (slot_held_lem ws at, fits_is (from ws at) p head end n, add-zero at)
    (as_one (leb len 65535) (eqb (tag % 2) 1) (eqb (get_or ws (at + 1) 0) 0) (ltb tag 4) (leb end p) (leb (p + span (len % 65536)) n)
    (leb (p + span len) n) (ltb tag 1028) (eqb ((tag / 4 - 1) % 256) head) (eqb (tag / 4) (head + 1)) (ltb p end)
    (λ e. ap (λ (k : ℕ). leb (p + span k) n) (eqb-true (len % 65536) len (len_held len ∙ e)))
    (λ e. lt-ltb tag 1028 (omega (arith, ltb-true tag 4 e)))
    (piece_is tag head h))

-- ---- the pass over the pages

module _ (ws : List ℕ) (p head end : ℕ) (h : p < 96) {n : ℕ} (c : n ≡ get_or ws 399 0) where
  -- what the code asks of the page's words is what the pass asks of its slot
  fits_in : fits (slot_at (pages_of ws 15).slots p) p (record { head = head; end = end }) (pages_of ws 15).count ≡ fits (slot_by (from ws (15 + 3 * p))) p (record { head = head; end = end }) n
  fits_in = rw (slot_at_lem ws 15 p h, count_is ws 15, ← c)

  module _ (f : Passed (pages_of ws 15).slots (pages_of ws 15).count p (record { head = head; end = end })) where
    -- a page that fails settles it, whichever of the two it fails
    pub page_fails : (slot_held ws (15 + 3 * p) && fits (slot_by (from ws (15 + 3 * p))) p (record { head = head; end = end }) n) ≡ false
        → false ≡ (slots_held ws 96 && runs_ok (pages_of ws 15))
    page_fails = by (slot_held ws (15 + 3 * p)) refl
      where
        by : (t : Bool) → slot_held ws (15 + 3 * p) ≡ t → (t && fits (slot_by (from ws (15 + 3 * p))) p (record { head = head; end = end }) n) ≡ false
            → false ≡ (slots_held ws 96 && runs_ok (pages_of ws 15))
        by true q e =
            sym (and-false (slots_held ws 96)) ∙ ap (λ (r : Bool). slots_held ws 96 && r) (pass_fails (pages_of ws 15) p _ (slots_size ws 15) f (fits_in ∙ e))
        by false q e = rw (all_miss (λ (j : ℕ). slot_held ws (15 + 3 * j)) p 96 h q)

    module _ (ok : (slot_held ws (15 + 3 * p) && fits (slot_by (from ws (15 + 3 * p))) p (record { head = head; end = end }) n) ≡ true) where
      pub slots_more : slots_held ws p ≡ true → slots_held ws (p + 1) ≡ true
      slots_more e = all_more (λ (j : ℕ). slot_held ws (15 + 3 * j)) p e (both (slot_held ws (15 + 3 * p)) _ ok).0

      fitting : fits (slot_by (from ws (15 + 3 * p))) p (record { head = head; end = end }) n ≡ true
      fitting = (both (slot_held ws (15 + 3 * p)) _ ok).1

      after_is : (t : Bool) → eqb (get_or ws (15 + 3 * p) 0 % 2) 1 ≡ t
          → after (slot_at (pages_of ws 15).slots p) p (record { head = head; end = end }) ≡ cond t (record { head = p; end = p + span (get_or ws (15 + 3 * p + 2) 0 % 65536) }) (record { head = head; end = end })
      unfolding after
      after_is t e = rw (slot_at_lem ws 15 p h, fits_run (from ws (15 + 3 * p)) p head end n fitting, add-zero (15 + 3 * p), e)

      turn : (t : Bool) → eqb (get_or ws (15 + 3 * p) 0 % 2) 1 ≡ t
          → Passed (pages_of ws 15).slots (pages_of ws 15).count (p + 1) (cond t (record { head = p; end = p + span (get_or ws (15 + 3 * p + 2) 0 % 65536) }) (record { head = head; end = end }))
      turn t e = rw (after_is t e) at (passed (pages_of ws 15).slots (pages_of ws 15).count p _ f (fits_in ∙ fitting))

      -- a run starts here
      pub turn_run : {first last : ℕ} → get_or ws (15 + 3 * p) 0 % 2 ≡ 1 → first ≡ p → last ≡ p + span (get_or ws (15 + 3 * p + 2) 0 % 65536)
          → Passed (pages_of ws 15).slots (pages_of ws 15).count (p + 1) (record { head = first; end = last })
      turn_run e a b = rw (a, b) (turn true (eq-eqb (get_or ws (15 + 3 * p) 0 % 2) 1 e))

      -- no run does
      pub turn_on : {first last : ℕ} → (get_or ws (15 + 3 * p) 0 % 2 ≡ 1 → ⊥) → first ≡ head → last ≡ end
          → Passed (pages_of ws 15).slots (pages_of ws 15).count (p + 1) (record { head = first; end = last })
      turn_on e a b = rw (a, b) (turn false (ne_eqb (get_or ws (15 + 3 * p) 0 % 2) 1 e))
