-- Every candidate that a tile's search keeps lies within the tile (`candidate_within`), so that what holds of all matches within it holds of all
-- that are kept (`search_all`). The idea: a segment is taken only below their count and in reach, and a candidate enters the eight by `insert`
-- alone.
use Rattle.std.specs.Prelude.{Option, Some, None}
use Prim.Native.Nat.{ℕ, ◌+◌, ◌<◌, ◌≤◌}
use mathlib.Core.Path.{◌≡◌, refl, ◌∙◌}
use mathlib.Core.Bool.{Bool, true, false, cond}
use mathlib.Core.List.{List}
use mathlib.Core.Logic.{⊎_elim}
use native.Mathlib.Omega.{arith}
use lib.Dec.{ltb}
use lib.IntN.{ℤ, pos, negsuc, ◌+ℤ◌, ◌-ℤ◌}
use lib.ListN.{length, get_or, set, length-set}
use lib.Seq.{get_or-set_same, get_or-set_other}
use lib.Ieee.{Float, binary32, le, lt, mul, of_int, to_signed}
use lib.Signed.{lt_z, le_z}
use borrow.Author.Tests.{ltb-true}
use Rattle.pack.specs.declared.Header.{Header}
use Rattle.pack.specs.declared.TileKey.{TileKey}
use Rattle.pack.proofs.Laws.{and_left}
use Rattle.pack.proofs.Signed.{not_lt_le}
use Rattle.cache.proofs.Below.{same_or}
use Rattle.tile.specs.Layout as Layout
use Rattle.tile.specs.declared.Edge.{Edge}
use Rattle.geo.specs.declared.Metres.{Metres}
use Rattle.geo.specs.declared.Point.{Point}
use Rattle.geo.specs.declared.Projected.{Projected}
use Rattle.geo.specs.Flat.{project_of, metres_of}
use Rattle.matcher.specs.declared.Candidate.{Candidate}
use Rattle.matcher.specs.declared.Kept.{Kept}
use Rattle.matcher.specs.declared.Matched.{Matched}
use Rattle.matcher.specs.declared.Nearest.{Nearest}
use Rattle.matcher.specs.declared.Query.{Query}
use Rattle.matcher.specs.declared.keep.Dearest.{Dearest}
use Rattle.matcher.specs.declared.scan.Scanned.{Scanned}
use Rattle.matcher.specs.Scan.{radius, origin, rejected, beats, is_closer, nearest_after, segment_step, scanned, scan, point_of}
use Rattle.matcher.specs.Score.{held_height, height, candidate_at}
use Rattle.matcher.specs.Keeping.{no_candidate, none_kept, replaced, dearest_of, insert}
use Rattle.matcher.specs.Tile.{kept_with, edge_step, search}
use Rattle.matcher.specs.Within.{Within, AllKept}
use Rattle.num.proofs.FoldLaws.{up_keeps}
use Rattle.geo.proofs.FractionLaws.{IsFraction, fraction_within}

-- ---- the scan of an edge

-- a segment of an edge with so many vertices, and a fraction of it
pub record NearGood (vertices : ℕ) (n : Nearest) : Type 0 where
  pub segment : n.segment ≤ vertices
  pub fraction : IsFraction n.fraction

-- of what was found, if anything
abbrev pub MaybeGood : ℕ → Option Nearest → Type 0
MaybeGood vertices None = Unit
MaybeGood vertices (Some n) = NearGood vertices n

module _ (vertices : ℕ) where
  after_good : (s : Scanned) (b : Metres) (i : ℕ) → i ≤ vertices → MaybeGood vertices s.nearest
      → MaybeGood vertices (nearest_after s b i)
  after_good s b i h good = by (is_closer s.nearest p.distance) refl
    where
      p : Projected
      p = project_of origin s.at b

      found : Nearest
      found = record { segment = i; fraction = p.fraction; distance = p.distance; a = s.at; b = b }

      by : (t : Bool) → is_closer s.nearest p.distance ≡ t → MaybeGood vertices (cond t (Some found) s.nearest)
      by true e = record {
        segment = h;
        fraction = fraction_within origin s.at b radius (and_left (le p.distance radius) (beats s.nearest p.distance) e);
      }
      by false e = good

  segment_good : (s : Scanned) (b : Metres) (i : ℕ) → i ≤ vertices → MaybeGood vertices s.nearest
      → MaybeGood vertices (segment_step s b i).nearest
  unfolding segment_step
  segment_good s b i h good = by (rejected s.at b)
    where
      by : (t : Bool) → MaybeGood vertices (cond t s.nearest (nearest_after s b i))
      by true = good
      by false = after_good s b i h good

-- what a scan finds is a segment of the edge, and a fraction of it
pub scan_good : (h : Header) (bs : List ℕ) (key : TileKey) (e : Edge) (fix : Point) (lon_um : ℕ)
    → MaybeGood e.vertices (scan h bs key e fix lon_um)
unfolding scanned
scan_good h bs key e fix lon_um =
    up_keeps (λ (s : Scanned) (i : ℕ). segment_step s (metres_of (point_of h bs key e (i + 1)) fix lon_um) i)
    (record { at = metres_of (point_of h bs key e 0) fix lon_um; nearest = None })
    (λ (s : Scanned). MaybeGood e.vertices s.nearest) (e.vertices + 1) tt
    (λ (i : ℕ) (below : i < e.vertices + 1) (s : Scanned) (good : MaybeGood e.vertices s.nearest).
    segment_good e.vertices s (metres_of (point_of h bs key e (i + 1)) fix lon_um) i (omega arith) good)

-- ---- the candidate

abbrev IsHeight : ℤ → Type 0
IsHeight z = (le_z (negsuc 999999) z ≡ true) × (le_z z (pos 1000000) ≡ true)

held_within : (z : ℤ) → IsHeight (held_height z)
held_within z = by (lt_z z (negsuc 999999)) (lt_z (pos 1000000) z) refl refl
  where
    by : (low high : Bool) → lt_z z (negsuc 999999) ≡ low → lt_z (pos 1000000) z ≡ high
        → IsHeight (cond low (negsuc 999999) (cond high (pos 1000000) z))
    by true high p q = (refl, refl)
    by false true p q = (refl, refl)
    by false false p q = (not_lt_le z (negsuc 999999) p, not_lt_le (pos 1000000) z q)

height_within : (za zb : ℤ) (fraction : Float) → IsHeight (height za zb fraction)
unfolding height
height_within za zb fraction = held_within (za +ℤ to_signed 31 (mul binary32 (of_int binary32 (zb -ℤ za)) fraction))

pub candidate_within : (q : Query) (lon_um : ℕ) (bs : List ℕ) (number : ℕ) (n : Nearest) → number < Layout.edges_of bs
    → NearGood (Layout.edge_of bs number).vertices n → Within bs (candidate_at q (Layout.id_of bs) lon_um bs number n).found
unfolding candidate_at
candidate_within q lon_um bs number n below good = record {
  tile = refl;
  edge = below;
  segment = good.segment;
  at_least = good.fraction.0;
  at_most = good.fraction.1;
  not_below = (height_within _ _ _).0;
  not_above = (height_within _ _ _).1;
}

-- ---- the eight

-- each candidate kept has Q of its match, and there is room for eight
pub record KeptGood (Q : Matched → Type 0) (k : Kept) : Type 0 where
  pub room : length k.v ≡ 8
  pub few : k.len ≤ 8
  pub all : AllKept Q k

module _ (Q : Matched → Type 0) where
  pub none_good : KeptGood Q none_kept
  none_good = record { room = refl; few = omega arith; all = λ (i : ℕ) (h : i < 0). absurd (omega arith) }

  -- one of the eight places with a new candidate in it
  set_good : (v : List Candidate) (len at : ℕ) (c : Candidate) → length v ≡ 8 → len ≤ 8 → Q c.found
      → ((i : ℕ) → i < len → (i ≡ at → ⊥) → Q (get_or v i no_candidate).found)
      → KeptGood Q (record { v = set v at c; len = len })
  set_good v len at c room few new old = record {
    room = length-set v at c ∙ room;
    few = few;
    all = λ (i : ℕ) (h : i < len).
        ⊎_elim
        (λ (e : i ≡ at). rw (← e, get_or-set_same v i c no_candidate (omega arith)) new)
        (λ (e : i ≡ at → ⊥). rw (get_or-set_other v at i c no_candidate e) (old i h e))
        (same_or i at);
  }

  replaced_good : (k : Kept) (d : Dearest) (c : Candidate) → KeptGood Q k → Q c.found → KeptGood Q (replaced k d c)
  replaced_good k d c good new = by (lt c.cost d.cost)
    where
      by : (t : Bool) → KeptGood Q (cond t (record { v = set k.v d.at c; len = k.len }) k)
      by true = set_good k.v k.len d.at c good.room good.few new (λ (i : ℕ) (h : i < k.len) (other : i ≡ d.at → ⊥). good.all i h)
      by false = good

  pub insert_good : (k : Kept) (c : Candidate) → KeptGood Q k → Q c.found → KeptGood Q (insert k c)
  unfolding insert
  insert_good k c good new = by (ltb k.len 8) refl
    where
      by : (t : Bool) → ltb k.len 8 ≡ t
          → KeptGood Q (cond t (record { v = set k.v k.len c; len = k.len + 1 }) (replaced k (dearest_of k) c))
      by true e =
          set_good k.v (k.len + 1) k.len c good.room (omega (arith, ltb-true k.len 8 e)) new
          (λ (i : ℕ) (h : i < k.len + 1) (other : i ≡ k.len → ⊥). good.all i (omega arith))
      by false e = replaced_good k (dearest_of k) c good new

  -- ---- the tile

  module _ (q : Query) (bs : List ℕ) (within : (m : Matched) → Within bs m → Q m) where
    with_good : (found : Option Nearest) (k : Kept) (lon_um number : ℕ) → number < Layout.edges_of bs
        → MaybeGood (Layout.edge_of bs number).vertices found → KeptGood Q k → KeptGood Q (kept_with found k q (Layout.id_of bs) lon_um bs number)
    with_good None k lon_um number below near good = good
    with_good (Some n) k lon_um number below near good =
        insert_good k (candidate_at q (Layout.id_of bs) lon_um bs number n) good
        (within (candidate_at q (Layout.id_of bs) lon_um bs number n).found (candidate_within q lon_um bs number n below near))

    edge_good : (k : Kept) (lon_um number : ℕ) → number < Layout.edges_of bs → KeptGood Q k
        → KeptGood Q (edge_step k q (Layout.id_of bs) lon_um bs number)
    unfolding edge_step
    edge_good k lon_um number below good =
        with_good (scan q.header bs (Layout.id_of bs).key (Layout.edge_of bs number) q.fix lon_um) k lon_um number below
        (scan_good q.header bs (Layout.id_of bs).key (Layout.edge_of bs number) q.fix lon_um) good

    pub search_all : (k : Kept) → KeptGood Q k → KeptGood Q (search k q bs)
    unfolding search
    search_all k good =
        up_keeps (λ (d : Kept) (number : ℕ). edge_step d q (Layout.id_of bs) (Layout.head_of bs).lon_um bs number) k (KeptGood Q)
        (Layout.edges_of bs) good
        (λ (number : ℕ) (below : number < Layout.edges_of bs) (d : Kept). edge_good d (Layout.head_of bs).lon_um number below)
