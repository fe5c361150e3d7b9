-- Well-formed runs: the test `runs_ok` is the same as the facts `Good`, both ways (`ok_is_good`, `good_is_ok`; for pages as a whole
-- `sound`, `sound_ok`), and what they tell: runs lie within the count (`inside`) and apart (`apart`), and a page has a key just where a
-- run starts (`key_is_run`), which is what the Rust asks: so a page that a lookup finds by its key starts a run, whatever else is marked ready.
-- Before that, what a span holds, and an arena.
use Rattle.std.specs.Prelude.{Option, Some, None}
use Rattle.pack.specs.declared.TileKey.{TileKey}
use Rattle.std.proofs.Common.{◌≡◌, ℕ, ◌+◌, ◌-◌, ◌*◌, ◌/◌, ◌<◌, ◌≤◌, Bool, true, false, not, ◌&&◌, ltb, leb, List, length, sym, refl, ap, ⊎_elim, true≢false, arith, ltb-true, lt-ltb, eq-eqb, eqb-true, le-leb, leb-false, leb-true}
use borrow.Author.Tests.{lt-leb}
use lib.ListN.{get_or-eq_default}
use Rattle.cache.specs.declared.Slot.{Slot}
use Rattle.cache.specs.declared.Pages.{Pages}
use Rattle.cache.specs.declared.Part.{Part}
use Rattle.cache.specs.Runs.{span, empty_slot, slot_at, Kind, bare, run, piece, kind_by, kind_at, end_of, is_run, is_piece, no_key, pieces_ok, run_ok, piece_ok, kind_ok, page_ok, runs_ok, RunGood, PieceGood, KindGood, PageGood, Good, Sound}
use Rattle.cache.proofs.Below.{below_or, and_left, and_right, all_at, all_from}

-- ---- spans

pub span_pos : (len : ℕ) → 1 ≤ span len
unfolding span
span_pos len = omega arith

-- the pages hold the bytes
pub span_holds : (len : ℕ) → len ≤ span len * 8192
unfolding span
span_holds len = omega arith

-- and fewer would not
pub span_least : (len : ℕ) → 0 < len → (span len - 1) * 8192 < len
unfolding span
span_least len h = omega arith

-- n pages are no more than an arena has where their bytes are no more than its bytes
pub room : (n size : ℕ) → leb n (size / 8192) ≡ leb (n * 8192) size
room n size = by (leb n (size / 8192)) refl
  where
    by : (t : Bool) → leb n (size / 8192) ≡ t → t ≡ leb (n * 8192) size
    by true e = sym (le-leb (n * 8192) size (omega (arith, leb-true n (size / 8192) e)))
    by false e = sym (lt-leb (n * 8192) size (omega (arith, leb-false n (size / 8192) e)))

-- ---- from the test to the facts, and back

is_run_lem : (k : Kind) → is_run k ≡ true → k ≡ run
is_run_lem run e = refl
is_run_lem bare e = absurd (true≢false (sym e))
is_run_lem (piece h) e = absurd (true≢false (sym e))

is_piece_lem : (p : ℕ) (k : Kind) → is_piece p k ≡ true → k ≡ piece p
is_piece_lem p run e = absurd (true≢false (sym e))
is_piece_lem p bare e = absurd (true≢false (sym e))
is_piece_lem p (piece h) e = ap piece (eqb-true h p e)

piece_is : (p : ℕ) → is_piece p (piece p) ≡ true
piece_is p = eq-eqb p p refl

module _ (s : List Slot) (count p : ℕ) where
  abbrev len : ℕ
  len = (slot_at s p).len

  run_good : run_ok s count p ≡ true → RunGood s count p
  unfolding run_ok
  run_good e =
      let r : (leb (span len) (count - p) && pieces_ok s p (span len - 1)) ≡ true = and_right (ltb p count) _ e in
      record {
        within = omega (
          arith,
          ltb-true p count (and_left (ltb p count) _ e),
          leb-true (span len) (count - p) (and_left (leb (span len) (count - p)) _ r),
        );
        pieces = λ (q : ℕ) (h : p < q) (k : q < end_of s p).
            let i : p + 1 + (q - (p + 1)) ≡ q = omega arith in
            let all : pieces_ok s p (span len - 1) ≡ true = and_right (leb (span len) (count - p)) _ r in
            is_piece_lem p (kind_at s q)
            (rw i at (all_at (λ (i : ℕ). is_piece p (kind_at s (p + 1 + i))) (q - (p + 1)) (span len - 1) (omega arith) all));
      }

  good_run : RunGood s count p → run_ok s count p ≡ true
  unfolding run_ok
  good_run g =
      rw (lt-ltb p count (omega (arith, g.within, span_pos len)), le-leb (span len) (count - p) (omega (arith, g.within)))
      (all_from (λ (i : ℕ). is_piece p (kind_at s (p + 1 + i))) (span len - 1)
      (λ (i : ℕ) (h : i < span len - 1). rw (g.pieces (p + 1 + i) (omega arith) (omega arith)) (piece_is p)))

  piece_good : (h : ℕ) → piece_ok s p h ≡ true → PieceGood s p h
  unfolding piece_ok
  piece_good h e =
      let r : (is_run (kind_at s h) && (ltb (p - h) (span (slot_at s h).len) && no_key (slot_at s p).key)) ≡ true = and_right (ltb h p) _ e in
      let t : (ltb (p - h) (span (slot_at s h).len) && no_key (slot_at s p).key) ≡ true = and_right (is_run (kind_at s h)) _ r in
      let later : h < p = ltb-true h p (and_left (ltb h p) _ e) in
      record {
        later = later;
        head = is_run_lem (kind_at s h) (and_left (is_run (kind_at s h)) _ r);
        inside = omega (arith, ltb-true (p - h) (span (slot_at s h).len) (and_left (ltb (p - h) (span (slot_at s h).len)) _ t));
        keyless = and_right (ltb (p - h) (span (slot_at s h).len)) _ t;
      }

  good_piece : (h : ℕ) → PieceGood s p h → piece_ok s p h ≡ true
  unfolding piece_ok
  good_piece h g = rw (lt-ltb h p g.later, g.head, lt-ltb (p - h) (span (slot_at s h).len) (omega (arith, g.later, g.inside)), g.keyless)

  ok_kind : (k : Kind) → kind_ok s count p k ≡ true → KindGood s count p k
  ok_kind run e = run_good e
  ok_kind (piece h) e = piece_good h e
  ok_kind bare e = tt

  kind_ok_lem : (k : Kind) → KindGood s count p k → kind_ok s count p k ≡ true
  kind_ok_lem run g = good_run g
  kind_ok_lem (piece h) g = good_piece h g
  kind_ok_lem bare g = refl

-- a page past the last slot is bare
pub past_good : (s : List Slot) (count p : ℕ) → length s ≤ p → PageGood s count p
past_good s count p h = rw (get_or-eq_default s empty_slot h) tt

pub ok_is_good : (g : Pages) → length g.slots ≡ 96 → runs_ok g ≡ true → Good g.slots g.count
ok_is_good g size e p =
    ⊎_elim
    (λ h. ok_kind g.slots g.count p (kind_at g.slots p) (all_at (page_ok g.slots g.count) p 96 h (and_right (leb g.count 96) _ e)))
    (λ h. past_good g.slots g.count p (omega arith))
    (below_or p 96)

pub good_is_ok : (g : Pages) → g.count ≤ 96 → Good g.slots g.count → runs_ok g ≡ true
good_is_ok g c f =
    rw (le-leb g.count 96 c)
    (all_from (page_ok g.slots g.count) 96 (λ (p : ℕ) (h : p < 96). kind_ok_lem g.slots g.count p (kind_at g.slots p) (f p)))

pub sound : (g : Pages) → length g.slots ≡ 96 → runs_ok g ≡ true → Sound g
sound g n e = record { size = n; small = leb-true g.count 96 (and_left (leb g.count 96) _ e); good = ok_is_good g n e }

pub sound_ok : (g : Pages) → Sound g → runs_ok g ≡ true
sound_ok g f = good_is_ok g f.small f.good

-- ---- what well-formed runs tell

module _ (s : List Slot) (count : ℕ) (f : Good s count) where
  pub run_at : (p : ℕ) → kind_at s p ≡ run → RunGood s count p
  run_at p e = rw e at (f p)

  pub piece_at : (p h : ℕ) → kind_at s p ≡ piece h → PieceGood s p h
  piece_at p h e = rw e at (f p)

  -- each within the count
  pub inside : (h : ℕ) → kind_at s h ≡ run → end_of s h ≤ count
  inside h e = (run_at h e).within

  -- two runs never overlap
  pub apart : (h1 h2 : ℕ) → kind_at s h1 ≡ run → kind_at s h2 ≡ run → h1 < h2 → end_of s h1 ≤ h2
  apart h1 h2 a b l = ⊎_elim (λ q. absurd (both q)) (λ q. q) (below_or h2 (end_of s h1))
    where
      both : h2 < end_of s h1 → ⊥
      both q =
          let e : kind_at s h2 ≡ piece h1 = (run_at h1 a).pieces h2 l q in
          let z : ◌≡◌ {A = ℕ} 0 1 = cc in omega arith

  -- the Rust's test, whether a page has a key, is the test for a run
  pub key_is_run : (p : ℕ) → no_key (slot_at s p).key ≡ not (is_run (kind_at s p))
  key_is_run p = by (slot_at s p).part (slot_at s p).key (λ (h : ℕ) (e : kind_at s p ≡ piece h). (piece_at p h e).keyless)
    where
      by : (a : Part) (b : Option TileKey) → ((h : ℕ) → kind_by a b ≡ piece h → no_key b ≡ true) → no_key b ≡ not (is_run (kind_by a b))
      by (Part.Of h) b f = f h refl
      by Part.Head (Some k) f = refl
      by Part.Head None f = refl
