-- The numbers that the code carries stand for the cache and the keys found: before the first lookup (`stands_start`) and after each tile found
-- (`stands_found`). While they do, a lookup answers as the look at the cache given (`stands_at`). A run that was
-- answered, by whatever numbers, lies in the arena (`found_length`).
-- The idea: row + 1 and column tell a key, so that a lookup by the numbers lands where one by the cache does; and a slot is one key's, so that a
-- mark spares only a check that would pass, and the run found last only a search that would end there.
use Rattle.std.specs.Prelude.{Option, Some, None, Ok}
use Rattle.std.specs.Prelude.{is_some}
use Rattle.std.proofs.Common.{◌≡◌, ℕ, ◌+◌, ◌*◌, ◌<◌, ◌≤◌, min, Bool, true, false, cond, ◌&&◌, eqb, ltb, leb, List, [], ◌∷◌, ◌++◌, length, get_or, drop, set, replicate, sym, refl, ap, ◌∙◌, ⊎_elim, true≢false, arith, length-drop, length-set, length-take-le, get_or-set_other, get_or-set_same, lt-ltb, eqb-true, le-leb, leb-true}
use borrow.Author.Tests.{lt-leb}
use lib.ListN.{length-replicate, get_or-replicate, get_or-eq_default}
use Rattle.pack.specs.declared.TileKey.{TileKey}
use Rattle.pack.proofs.Laws.{and_left, and_right}
use Rattle.cache.specs.declared.Slot.{Slot}
use Rattle.cache.specs.declared.Cache.{Cache}
use Rattle.cache.specs.declared.Lookup.TheVariants as Lookup
use Rattle.cache.specs.declared.look.Landing.{Landing}
use Rattle.cache.specs.Runs.{empty_slot, slot_at}
use Rattle.cache.specs.Search.{lowest}
use Rattle.cache.specs.Keys as Keys
use Rattle.cache.specs.Keys.{same_key, holds, key_at, is_ready, ready_at}
use Rattle.cache.specs.Lookups.{landed_on, lands_on, run_bytes, passes, len_at, touched, got}
use Rattle.cache.specs.Direct.{ready, stale, look_at, look, looked}
use Rattle.cache.proofs.Below.{same_or, below_or}
use Rattle.cache.proofs.SearchLaws.{lowest_at, lowest_same, lowest_end}
use Rattle.cache.proofs.LookLaws.{looked_more, got-touched, passes_inside}
use Rattle.cache.specs.Ages.{pages_in, ring_in, most, lookups_of, ages_to, aged, is_key_at, in_ring, or_past, page_of, inside, known, marked, Hit, hit_run, hit_page, was_found, look_up, bytes_of}
use Rattle.cache.specs.Reader.{in_bytes, in_looks}
use Rattle.cache.specs.Stands.{Sized, Taken, Sound, Stands}
use Rattle.cache.proofs.LooksLaws.{key_tells, ready_tells, pages_length, pages_marks, pages_age, pages_row, pages_col, pages_len, ring_length, ring_below, ring_row, ring_col, ages_are, last_below, marked-length, marked_other, marked_clock, marked_ages}

-- ---- a slot is one key's

same_key_lem : (a b : TileKey) → same_key a b ≡ true → a ≡ b
same_key_lem a b e =
    let row : a.row ≡ b.row = eqb-true a.row b.row (and_left (eqb a.row b.row) _ e) in
    let col : a.col ≡ b.col = eqb-true a.col b.col (and_right (eqb a.row b.row) _ e) in
    λ i. record { row = row i; col = col i }

one_key : (m : Option TileKey) (a b : TileKey) → holds m a ≡ true → holds m b ≡ true → a ≡ b
one_key (Some k) a b p q = sym (same_key_lem k a p) ∙ same_key_lem k b q
one_key None a b p q = absurd (true≢false (sym p))

slot_key : (s : Slot) (a b : TileKey) → is_ready a s ≡ true → is_ready b s ≡ true → a ≡ b
unfolding is_ready
slot_key s a b p q = one_key s.key a b (and_right s.ready _ p) (and_right s.ready _ q)

-- a run that a lookup lands on is the key's
lands_ready : (c : Cache) (key : TileKey) (i : ℕ) → lands_on c key ≡ Landing.At i → is_ready key (slot_at c.pages.slots i) ≡ true
unfolding lands_on ready_at
lands_ready c key i e =
    (lowest_at (λ (j : ℕ). is_ready key (slot_at c.pages.slots j)) c.pages.count i (by (Keys.in_ring c.missing key) (ready_at c.pages key) e)).1
  where
    by : (t : Bool) (x : Option ℕ) → cond t Landing.Missing (landed_on x) ≡ Landing.At i → x ≡ Some i
    by true x e = let z : ◌≡◌ {A = ℕ} 0 1 = cc in absurd (omega arith)
    by false (Some j) e = let z : j ≡ i = cc in ap Some z
    by false None e = let z : ◌≡◌ {A = ℕ} 0 1 = cc in absurd (omega arith)

-- past the last of the 96 pages stands the empty slot, which is not ready
module _ (c : Cache) (sized : Sized c) (key : TileKey) where
  past : (i : ℕ) → 96 ≤ i → is_ready key (slot_at c.pages.slots i) ≡ false
  unfolding is_ready
  past i h = rw (get_or-eq_default c.pages.slots empty_slot {n = i} (omega (arith, sized.slots, h)))

  ready_below : (i : ℕ) → is_ready key (slot_at c.pages.slots i) ≡ true → i < 96
  ready_below i e = ⊎_elim (λ (h : i < 96). h) (λ (h : 96 ≤ i). absurd (true≢false (sym e ∙ past i h))) (below_or i 96)

  found_below : (i : ℕ) → ready_at c.pages key ≡ Some i → i < 96
  unfolding ready_at
  found_below i e = ready_below i (lowest_at (λ (j : ℕ). is_ready key (slot_at c.pages.slots j)) c.pages.count i e).1

  lands_below : (i : ℕ) → lands_on c key ≡ Landing.At i → i < 96
  lands_below i l = ready_below i (lands_ready c key i l)

-- ---- before the first lookup

module _ (c : Cache) (none : List ℕ) (size : length none ≡ 611) (zeros : (i : ℕ) → i < 611 → get_or none i 0 ≡ 0) where
  abbrev paged : List ℕ
  paged = pages_in none c.pages 96

  abbrev ringed : List ℕ
  ringed = ring_in paged c.missing 64

  abbrev timed : List ℕ
  timed = set ringed 608 c.pages.clock

  abbrev taken : List ℕ
  taken = set timed 609 (most c.pages.count)

  size_paged : length paged ≡ 611
  size_paged = pages_length none c.pages 96 ∙ size

  size_ringed : length ringed ≡ 611
  size_ringed = ring_length paged c.missing 64 ∙ size_paged

  size_timed : length timed ≡ 611
  size_timed = length-set ringed 608 c.pages.clock ∙ size_ringed

  taken_low : (j : ℕ) → j < 608 → get_or taken j 0 ≡ get_or ringed j 0
  taken_low j h =
      get_or-set_other timed 609 j (most c.pages.count) 0 (λ (e : j ≡ 609). omega (arith, e, h))
      ∙ get_or-set_other ringed 608 j c.pages.clock 0 (λ (e : j ≡ 608). omega (arith, e, h))

  taken_page : (j : ℕ) → j < 480 → get_or taken j 0 ≡ get_or paged j 0
  taken_page j h = taken_low j (omega (arith, h)) ∙ ring_below paged c.missing 64 j h

  read_taken : Taken c taken
  read_taken = record {
    long = length-set timed 609 (most c.pages.count) ∙ size_timed;
    rows = λ (i : ℕ) (h : i < 96). taken_page (192 + i) (omega (arith, h)) ∙ pages_row none c.pages size 96 i (omega arith) h;
    cols = λ (i : ℕ) (h : i < 96). taken_page (288 + i) (omega (arith, h)) ∙ pages_col none c.pages size 96 i (omega arith) h;
    lens = λ (i : ℕ) (h : i < 96). taken_page (384 + i) (omega (arith, h)) ∙ pages_len none c.pages size 96 i (omega arith) h;
    ring_rows = λ (i : ℕ) (h : i < 64). taken_low (480 + i) (omega (arith, h)) ∙ ring_row paged c.missing size_paged 64 i (omega arith) h;
    ring_cols = λ (i : ℕ) (h : i < 64). taken_low (544 + i) (omega (arith, h)) ∙ ring_col paged c.missing size_paged 64 i (omega arith) h;
    count = get_or-set_same timed 609 (most c.pages.count) 0 (omega (arith, size_timed));
  }

  -- no run is marked
  taken_mark : (i : ℕ) → i < 96 → get_or taken (96 + i) 0 ≡ 0
  taken_mark i h =
      taken_page (96 + i) (omega (arith, h))
      ∙ (pages_marks none c.pages 96 (96 + i) (omega arith) (omega arith) (omega (arith, h)) ∙ zeros (96 + i) (omega (arith, h)))

  taken_clock : get_or taken 608 0 ≡ c.pages.clock
  taken_clock =
      get_or-set_other timed 609 608 (most c.pages.count) 0 (λ (e : 608 ≡ 609). omega (arith, e))
      ∙ get_or-set_same ringed 608 c.pages.clock 0 (omega (arith, size_ringed))

  taken_ages : length c.pages.used ≡ 96 → ages_to taken 96 ≡ c.pages.used
  taken_ages u =
      ages_are taken c.pages.used u
      (λ (i : ℕ) (h : i < 96). taken_page i (omega (arith, h)) ∙ pages_age none c.pages size 96 i (omega arith) h)

  stands_taken : (arena : List ℕ) (cell : ℕ) → Sized c → Stands c arena cell taken []
  unfolding aged looked
  stands_taken arena cell sized = record {
    sized = sized;
    taken = read_taken;
    sound = λ (i : ℕ) (key : TileKey) (h : i < 96) (e : get_or taken (96 + i) 0 ≡ 1) (r : is_ready key (slot_at c.pages.slots i) ≡ true).
        absurd (omega (arith, e, taken_mark i h));
    same = rw (taken_ages sized.used, taken_clock);
  }

pub stands_start : (c : Cache) (arena : List ℕ) (size : ℕ) → Sized c → Stands c arena size (lookups_of c) []
unfolding lookups_of
stands_start c arena size sized =
    stands_taken c (replicate 611 0) (length-replicate {A = ℕ} 611 0) (λ (i : ℕ) (h : i < 611). get_or-replicate {A = ℕ} 611 i 0 0 h) arena size sized

-- ---- by the numbers a lookup lands where it does by the cache

module _ (c : Cache) (sized : Sized c) (looks : List ℕ) (read : Taken c looks) (key : TileKey) where
  same_ring : in_ring looks key ≡ Keys.in_ring c.missing key
  unfolding in_ring Keys.in_ring
  same_ring =
      ap is_some
      (lowest_same (λ (i : ℕ). is_key_at looks (480 + i) (544 + i) key) (λ (i : ℕ). holds (key_at c.missing i) key) 64
      (λ (i : ℕ) (h : i < 64). rw (read.ring_rows i h, read.ring_cols i h) (key_tells (key_at c.missing i) key)))

  same_ready : (i : ℕ) → i < 96 → is_key_at looks (192 + i) (288 + i) key ≡ is_ready key (slot_at c.pages.slots i)
  same_ready i h = rw (read.rows i h, read.cols i h) (ready_tells (slot_at c.pages.slots i) key)

  abbrev by_cache : ℕ → Bool
  by_cache i = is_ready key (slot_at c.pages.slots i)

  abbrev by_numbers : ℕ → Bool
  by_numbers i = ltb i 96 && is_key_at looks (192 + i) (288 + i) key

  same_below : (n : ℕ) → n ≤ 96 → lowest by_numbers n ≡ lowest by_cache n
  same_below n m =
      lowest_same by_numbers by_cache n
      (λ (i : ℕ) (h : i < n).
      let k : i < 96 = omega (arith, h, m) in
      rw (lt-ltb i 96 k) (same_ready i k))

  same_found : lowest by_numbers (get_or looks 609 0) ≡ ready_at c.pages key
  unfolding ready_at
  same_found =
      rw read.count
      (same_below (min c.pages.count 96) (omega arith)
      ∙ ⊎_elim
      (λ (h : c.pages.count < 96). let e : min c.pages.count 96 ≡ c.pages.count = omega (arith, h) in ap (lowest by_cache) e)
      (λ (h : 96 ≤ c.pages.count).
      let e : min c.pages.count 96 ≡ 96 = omega (arith, h) in
      ap (lowest by_cache) e ∙ sym (lowest_end by_cache 96 c.pages.count h (λ (k : ℕ) (m : 96 ≤ k). past c sized key k m)))
      (below_or c.pages.count 96))

  same_page : page_of looks key ≡ or_past (ready_at c.pages key)
  unfolding page_of
  same_page = ap or_past same_found

-- what a lookup answers by what it lands on
abbrev hit_at : Landing → List ℕ → List ℕ → ℕ → TileKey → Hit
hit_at Landing.Missing looks arena size key = record { answer = Ok Lookup.Missing; looks = looks }
hit_at Landing.Nothing looks arena size key = record { answer = Ok Lookup.Absent; looks = looks }
hit_at (Landing.At i) looks arena size key = hit_run (known looks arena i (get_or looks (384 + i) 0) key size) looks i

module _ (c : Cache) (sized : Sized c) (looks : List ℕ) (read : Taken c looks) (arena : List ℕ) (size : ℕ) (key : TileKey) where
  search_lands : cond (in_ring looks key) (record { answer = Ok Lookup.Missing; looks = looks }) (hit_page looks arena size key (page_of looks key))
      ≡ hit_at (lands_on c key) looks arena size key
  unfolding lands_on
  search_lands =
      rw (same_ring c sized looks read key, same_page c sized looks read key) (by (Keys.in_ring c.missing key) (ready_at c.pages key) refl)
    where
      by : (t : Bool) (x : Option ℕ) → ready_at c.pages key ≡ x
          → cond t (record { answer = Ok Lookup.Missing; looks = looks }) (hit_page looks arena size key (or_past x))
          ≡ hit_at (cond t Landing.Missing (landed_on x)) looks arena size key
      by true x e = refl
      by false (Some i) e = rw (lt-leb 96 i (found_below c sized key i e))
      by false None e = refl

  module _ (sound : Sound c arena size looks) where
    -- the run found last is marked: if it is the key's, the key lands on it
    last_lands : (i : ℕ) → was_found looks i key ≡ true → lands_on c key ≡ Landing.At i
    unfolding was_found
    last_lands i e =
        let low : i < 96 = last_below looks i key e in
        let known : (eqb (get_or looks (96 + i) 0) 1 && is_key_at looks (192 + i) (288 + i) key) ≡ true = and_right (ltb i 96) _ e in
        let mark : get_or looks (96 + i) 0 ≡ 1 = eqb-true (get_or looks (96 + i) 0) 1 (and_left (eqb (get_or looks (96 + i) 0) 1) _ known) in
        (sound i key low mark (sym (same_ready c sized looks read key i low) ∙ and_right (eqb (get_or looks (96 + i) 0) 1) _ known)).lands

    hit_lands : look_up looks arena size key ≡ hit_at (lands_on c key) looks arena size key
    unfolding look_up
    hit_lands = by (was_found looks (get_or looks 610 0) key) refl
      where
        by : (t : Bool) → was_found looks (get_or looks 610 0) key ≡ t
            → cond t (hit_at (Landing.At (get_or looks 610 0)) looks arena size key)
            (cond (in_ring looks key) (record { answer = Ok Lookup.Missing; looks = looks }) (hit_page looks arena size key (page_of looks key)))
            ≡ hit_at (lands_on c key) looks arena size key
        by true e = rw (last_lands (get_or looks 610 0) e)
        by false e = search_lands

-- ---- a lookup changes clock, ages, marks and the run found last alone

aged_lands : (c : Cache) (looks : List ℕ) (key : TileKey) → lands_on (aged c looks) key ≡ lands_on c key
unfolding lands_on ready_at aged
aged_lands c looks key = refl

aged_len : (c : Cache) (looks : List ℕ) (i : ℕ) → len_at (aged c looks) i ≡ len_at c i
unfolding aged
aged_len c looks i = refl

aged-touched : (c : Cache) (looks : List ℕ) (i : ℕ) → i < 96 → length looks ≡ 611 → touched (aged c looks) i ≡ aged c (marked looks i)
unfolding touched aged
aged-touched c looks i h size = rw (marked_ages looks i h size, marked_clock looks i h size)

read_marked : (c : Cache) (looks : List ℕ) (i : ℕ) → i < 96 → Taken c looks → Taken c (marked looks i)
read_marked c looks i h read = record {
  long = marked-length looks i ∙ read.long;
  rows = λ (j : ℕ) (k : j < 96). kept (192 + j) (omega arith) (omega (arith, k)) ∙ read.rows j k;
  cols = λ (j : ℕ) (k : j < 96). kept (288 + j) (omega arith) (omega (arith, k)) ∙ read.cols j k;
  lens = λ (j : ℕ) (k : j < 96). kept (384 + j) (omega arith) (omega (arith, k)) ∙ read.lens j k;
  ring_rows = λ (j : ℕ) (k : j < 64). kept (480 + j) (omega arith) (omega (arith, k)) ∙ read.ring_rows j k;
  ring_cols = λ (j : ℕ) (k : j < 64). kept (544 + j) (omega arith) (omega (arith, k)) ∙ read.ring_cols j k;
  count =
      marked_other looks i 609
      (λ (e : 609 ≡ 608). omega (arith, e))
      (λ (e : 609 ≡ i). omega (arith, e, h))
      (λ (e : 609 ≡ 96 + i). omega (arith, e, h))
      (λ (e : 609 ≡ 610). omega (arith, e))
      ∙ read.count;
}
  where
    kept : (j : ℕ) → 192 ≤ j → j < 608 → get_or (marked looks i) j 0 ≡ get_or looks j 0
    kept j a b =
        marked_other looks i j
        (λ (e : j ≡ 608). omega (arith, e, b))
        (λ (e : j ≡ i). omega (arith, e, a, h))
        (λ (e : j ≡ 96 + i). omega (arith, e, a, h))
        (λ (e : j ≡ 610). omega (arith, e, b))

module _ (c : Cache) (arena : List ℕ) (size : ℕ) (looks : List ℕ) (keys : List TileKey) (stands : Stands c arena size looks keys) where
  -- a mark that tells the truth changes nothing
  known-passes : (key : TileKey) (i : ℕ) → lands_on c key ≡ Landing.At i
      → known looks arena i (get_or looks (384 + i) 0) key size ≡ passes arena i (len_at c i) key size
  known-passes key i l = rw (stands.taken.lens i low) (by (eqb (get_or looks (96 + i) 0) 1) refl)
    where
      low : i < 96
      low = lands_below c stands.sized key i l

      by : (t : Bool) → eqb (get_or looks (96 + i) 0) 1 ≡ t
          → cond t (inside arena i (len_at c i)) (passes arena i (len_at c i) key size) ≡ passes arena i (len_at c i) key size
      by true e =
          let p : passes arena i (len_at c i) key size ≡ true =
          (stands.sound i key low (eqb-true (get_or looks (96 + i) 0) 1 e) (lands_ready c key i l)).passed in
          le-leb (i * 8192 + len_at c i) (length arena) (passes_inside arena i (len_at c i) key size p) ∙ sym p
      by false e = refl

  -- ---- what a lookup answers

  -- a run that passes lies in the arena, so its bytes are all there
  bytes_are : (key : TileKey) (i : ℕ) → passes arena i (len_at c i) key size ≡ true → bytes_of arena i (len_at c i) ≡ run_bytes arena i (len_at c i)
  unfolding bytes_of
  bytes_are key i p = rw (le-leb (i * 8192 + len_at c i) (length arena) (passes_inside arena i (len_at c i) key size p))

  pub stands_at : (key : TileKey) → (in_looks arena size).at looks key ≡ look c arena size key
  unfolding look
  stands_at key = rw (hit_lands c stands.sized looks stands.taken arena size key stands.sound) (by (lands_on c key) refl)
    where
      run : (i : ℕ) → i < 96 → (ok : Bool) → passes arena i (len_at c i) key size ≡ ok
          → in_bytes (hit_run ok looks i).answer arena ≡ cond ok (ready (run_bytes arena i (len_at c i))) stale
      run i h true p = rw (stands.taken.lens i h) (ap ready (bytes_are key i p))
      run i h false p = refl

      by : (l : Landing) → lands_on c key ≡ l → in_bytes (hit_at l looks arena size key).answer arena ≡ look_at l c.pages.slots arena size key
      by Landing.Missing l = refl
      by Landing.Nothing l = refl
      by (Landing.At i) l = rw (known-passes key i l) (run i (lands_below c stands.sized key i l) (passes arena i (len_at c i) key size) refl)

  -- ---- a tile found

  -- one mark more, on a run that passes for the key that lands on it
  module _ (key : TileKey) (i : ℕ) (l : lands_on c key ≡ Landing.At i) (p : passes arena i (len_at c i) key size ≡ true) where
    low : i < 96
    low = lands_below c stands.sized key i l

    sound_marked : Sound c arena size (marked looks i)
    sound_marked j k h e m =
        ⊎_elim
        (λ (q : j ≡ i).
        let r : is_ready k (slot_at c.pages.slots i) ≡ true = rw q at m in
        rw (q, ← slot_key (slot_at c.pages.slots i) key k (lands_ready c key i l) r) (record { lands = l; passed = p }))
        (λ (ne : j ≡ i → ⊥).
        stands.sound j k h
        (sym
        (marked_other looks i (96 + j)
        (λ (x : 96 + j ≡ 608). omega (arith, x, h))
        (λ (x : 96 + j ≡ i). omega (arith, x, low))
        (λ (x : 96 + j ≡ 96 + i). ne (omega (arith, x)))
        (λ (x : 96 + j ≡ 610). omega (arith, x, h)))
        ∙ e)
        m)
        (same_or j i)

    same_marked : aged c (marked looks i) ≡ looked c arena size (keys ++ (key ∷ []))
    same_marked =
        let got_aged : (got (aged c looks) arena size key).cache ≡ touched (aged c looks) i
        = got-touched arena size (aged c looks) key i (aged_lands c looks key ∙ l) (rw (aged_len c looks i) p) in
        rw (looked_more arena size keys c key, ← stands.same, got_aged, aged-touched c looks i low stands.taken.long)

    stands_marked : Stands c arena size (marked looks i) (keys ++ (key ∷ []))
    stands_marked = record {
      sized = stands.sized;
      taken = read_marked c looks i low stands.taken;
      sound = sound_marked;
      same = same_marked;
    }

  pub stands_found : (key : TileKey) (bs : List ℕ) → look c arena size key ≡ ready bs
      → Stands c arena size ((in_looks arena size).found looks key) (keys ++ (key ∷ []))
  unfolding look
  stands_found key bs e = rw (hit_lands c stands.sized looks stands.taken arena size key stands.sound) (by (lands_on c key) refl e)
    where
      run : (i : ℕ) → lands_on c key ≡ Landing.At i → (ok : Bool) → passes arena i (len_at c i) key size ≡ ok
          → cond ok (ready (run_bytes arena i (len_at c i))) stale ≡ ready bs → Stands c arena size (hit_run ok looks i).looks (keys ++ (key ∷ []))
      run i l true p e = stands_marked key i l p
      run i l false p e = let z : ◌≡◌ {A = ℕ} 0 1 = cc in absurd (omega arith)

      by : (l : Landing) → lands_on c key ≡ l → look_at l c.pages.slots arena size key ≡ ready bs
          → Stands c arena size (hit_at l looks arena size key).looks (keys ++ (key ∷ []))
      by Landing.Missing l e = let z : ◌≡◌ {A = ℕ} 0 1 = cc in absurd (omega arith)
      by Landing.Nothing l e = let z : ◌≡◌ {A = ℕ} 0 1 = cc in absurd (omega arith)
      by (Landing.At i) l e = rw (known-passes key i l) (run i l (passes arena i (len_at c i) key size) refl e)

-- ---- a run that was answered is all there

module _ (looks arena : List ℕ) (size : ℕ) (key : TileKey) where
  known_inside : (i n : ℕ) → known looks arena i n key size ≡ true → i * 8192 + n ≤ length arena
  known_inside i n e = by (eqb (get_or looks (96 + i) 0) 1) e
    where
      by : (t : Bool) → cond t (inside arena i n) (passes arena i n key size) ≡ true → i * 8192 + n ≤ length arena
      by true e = leb-true (i * 8192 + n) (length arena) e
      by false e = passes_inside arena i n key size e

  run_length : (i n : ℕ) → i * 8192 + n ≤ length arena → length (bytes_of arena i n) ≡ n
  unfolding bytes_of
  run_length i n h = rw (le-leb (i * 8192 + n) (length arena) h) (length-take-le n (drop (i * 8192) arena) (rw length-drop (omega (arith, h))))

  module _ (first len : ℕ) where
    run_found : (i : ℕ) (ok : Bool) → known looks arena i (get_or looks (384 + i) 0) key size ≡ ok → (hit_run ok looks i).answer ≡ Ok (Lookup.Ready first len)
        → length (bytes_of arena first len) ≡ len
    run_found i true p e =
        let f : i ≡ first = cc in
        let n : get_or looks (384 + i) 0 ≡ len = cc in
        rw (← n, ← f) (run_length i (get_or looks (384 + i) 0) (known_inside i (get_or looks (384 + i) 0) p))
    run_found i false p e = let z : ◌≡◌ {A = ℕ} 0 1 = cc in absurd (omega arith)

    page_found : (i : ℕ) (past : Bool)
        → (cond past (record { answer = Ok Lookup.Absent; looks = looks }) (hit_run (known looks arena i (get_or looks (384 + i) 0) key size) looks i)).answer
        ≡ Ok (Lookup.Ready first len)
        → length (bytes_of arena first len) ≡ len
    page_found i true e = let z : ◌≡◌ {A = ℕ} 0 1 = cc in absurd (omega arith)
    page_found i false e = run_found i (known looks arena i (get_or looks (384 + i) 0) key size) refl e

    ring_found : (held : Bool) → (cond held (record { answer = Ok Lookup.Missing; looks = looks }) (hit_page looks arena size key (page_of looks key))).answer
        ≡ Ok (Lookup.Ready first len)
        → length (bytes_of arena first len) ≡ len
    ring_found true e = let z : ◌≡◌ {A = ℕ} 0 1 = cc in absurd (omega arith)
    ring_found false e = page_found (page_of looks key) (leb 96 (page_of looks key)) e

    last_found : (i : ℕ) (last : Bool)
        → (cond last (hit_run (known looks arena i (get_or looks (384 + i) 0) key size) looks i)
        (cond (in_ring looks key) (record { answer = Ok Lookup.Missing; looks = looks }) (hit_page looks arena size key (page_of looks key)))).answer
        ≡ Ok (Lookup.Ready first len)
        → length (bytes_of arena first len) ≡ len
    last_found i true e = run_found i (known looks arena i (get_or looks (384 + i) 0) key size) refl e
    last_found i false e = ring_found (in_ring looks key) e

    pub found_length : (look_up looks arena size key).answer ≡ Ok (Lookup.Ready first len) → length (bytes_of arena first len) ≡ len
    unfolding look_up
    found_length e = last_found (get_or looks 610 0) (was_found looks (get_or looks 610 0) key) e
