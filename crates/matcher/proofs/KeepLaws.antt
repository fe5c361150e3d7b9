-- The candidates kept stay as many places, of which at most eight are taken: inserting either takes a free place or changes one, and a
-- search inserts alone. A place that is there reads the same whatever stands past the last one.
use Rattle.std.specs.Prelude.{Option, Some, None}
use Rattle.matcher.specs.declared.Nearest.{Nearest}
use Prim.Native.Nat.{ℕ, zero, suc, ◌+◌, ◌<◌, ◌≤◌}
use mathlib.Core.Path.{◌≡◌, refl, ◌∙◌}
use mathlib.Core.Bool.{Bool, true, false, cond}
use mathlib.Core.List.{List, [], ◌∷◌}
use native.Mathlib.Omega.{arith}
use lib.Dec.{ltb}
use lib.Ieee.{lt}
use lib.ListN.{length, get_or, set, length-set}
use borrow.Author.Tests.{ltb-true}
use Rattle.tile.specs.Layout as Layout
use Rattle.tile.specs.declared.TileId.{TileId}
use Rattle.matcher.specs.declared.Candidate.{Candidate}
use Rattle.matcher.specs.declared.Kept.{Kept}
use Rattle.matcher.specs.declared.Query.{Query}
use Rattle.matcher.specs.Scan.{scan}
use Rattle.matcher.specs.Score.{candidate_at}
use Rattle.matcher.specs.Keeping.{dearest_of, insert}
use Rattle.matcher.specs.Tile as Tile
use Rattle.num.proofs.FoldLaws.{up_keeps}

-- ---- reading a place

pub at_any : {A : Type 0} (l : List A) (i : ℕ) (d e : A) → i < length l → get_or l i d ≡ get_or l i e
at_any [] i d e h = absurd (omega arith)
at_any (x ∷ l) zero d e h = refl
at_any (x ∷ l) (suc i) d e h = at_any l i d e (omega arith)

-- ---- inserting

-- in the next free place, and in a place that is taken
abbrev pub placed : Kept → Candidate → Kept
placed k c = record { v = set k.v k.len c; len = k.len + 1 }

abbrev pub swapped : Kept → ℕ → Candidate → Kept
swapped k at c = record { v = set k.v at c; len = k.len }

pub insert_keeps : (P : Kept → Type 0) (k : Kept) (c : Candidate) → P k → (k.len < 8 → P (placed k c)) → ((at : ℕ) → P (swapped k at c))
    → P (insert k c)
unfolding insert
insert_keeps P k c same free full = go (ltb k.len 8) (lt c.cost (dearest_of k).cost) refl
  where
    go : (t u : Bool) → ltb k.len 8 ≡ t → P (cond t (placed k c) (cond u (swapped k (dearest_of k).at c) k))
    go true u e = free (ltb-true k.len 8 e)
    go false true e = full (dearest_of k).at
    go false false e = same

pub insert-length : (k : Kept) (c : Candidate) → length (insert k c).v ≡ length k.v
insert-length k c =
    insert_keeps (λ (x : Kept). length x.v ≡ length k.v) k c refl
    (λ free. length-set k.v k.len c)
    (λ at. length-set k.v at c)

pub insert_len : (k : Kept) (c : Candidate) → k.len ≤ 8 → (insert k c).len ≤ 8
insert_len k c h = insert_keeps (λ (x : Kept). x.len ≤ 8) k c h (λ (free : k.len < 8). omega arith) (λ at. h)

-- ---- a search: what inserting keeps, it keeps

module _ (P : Kept → Type 0) (kept : (k : Kept) (c : Candidate) → P k → P (insert k c)) (q : Query) (bs : List ℕ) where
  pub step_keeps : (k : Kept) (id : TileId) (lon_um number : ℕ) → P k → P (Tile.edge_step k q id lon_um bs number)
  unfolding Tile.edge_step
  step_keeps k id lon_um number h = go (scan q.header bs id.key (Layout.edge_of bs number) q.fix lon_um)
    where
      go : (m : Option Nearest) → P (Tile.kept_with m k q id lon_um bs number)
      go None = h
      go (Some n) = kept k (candidate_at q id lon_um bs number n) h

  pub search_keeps : (k : Kept) → P k → P (Tile.search k q bs)
  unfolding Tile.search
  search_keeps k h =
      up_keeps _ k P (Layout.edges_of bs) h (λ number b x g. step_keeps x (Layout.id_of bs) (Layout.head_of bs).lon_um number g)

pub search_length : (k : Kept) (q : Query) (bs : List ℕ) → length (Tile.search k q bs).v ≡ length k.v
search_length k q bs =
    search_keeps (λ (x : Kept). length x.v ≡ length k.v) (λ x c h. insert-length x c ∙ h) q bs k refl

pub search_len : (k : Kept) (q : Query) (bs : List ℕ) → k.len ≤ 8 → (Tile.search k q bs).len ≤ 8
search_len k q bs h = search_keeps (λ (x : Kept). x.len ≤ 8) insert_len q bs k h
