-- Records read out of slices of their own length. Where a tile's length is right every record is there, and its slice holds what the tile's bytes hold at
-- its place. The slices have n bytes, so that a caller need not compute the difference of a slice's bounds.
use Prim.Native.Nat.{ℕ, ◌+◌, ◌*◌, ◌≤◌, ◌<◌}
use mathlib.Core.Path.{◌≡◌}
use mathlib.Core.Bool.{true}
use mathlib.Core.List.{List}
use native.Mathlib.Omega.{arith}
use lib.ListN as ListN
use lib.ListN.{take, drop}
use borrow.Author.Tests.{eqb-true}
use Rattle.pack.specs.Bytes.{u16_at}
use Rattle.pack.proofs.Laws.{u16_slice, u32_slice}
use Rattle.tile.specs.Layout.{nodes_of, edges_of, vertices_of, length, node_start, entry_start, edge_start, place_at, node_of}
use Rattle.tile.specs.Parse.{is_length, node_fits, node_ok, edge_fits}

-- ---- the bytes of a record lie within those of the tile

module _ (bs : List ℕ) (right : is_length bs ≡ true) where
  pub length_right : length (nodes_of bs) (edges_of bs) (vertices_of bs) ≡ ListN.length bs
  length_right = eqb-true (length (nodes_of bs) (edges_of bs) (vertices_of bs)) (ListN.length bs) right

  pub node_there : (i : ℕ) → i < nodes_of bs → node_start i + 8 ≤ ListN.length bs
  node_there i h = omega (arith, length_right)

  pub entry_there : (j : ℕ) → j < edges_of bs * 2 → entry_start bs j + 2 ≤ ListN.length bs
  entry_there j h = omega (arith, length_right)

  pub edge_there : (i : ℕ) → i < edges_of bs → edge_start bs i + 16 ≤ ListN.length bs
  edge_there i h = omega (arith, length_right)

-- ---- what a record's slice holds

module _ (bs : List ℕ) (n : ℕ) where
  pub node_x : (i : ℕ) → 8 ≤ n → u16_at (take n (drop (node_start i) bs)) 0 ≡ (node_of bs i).x
  unfolding place_at
  node_x i h = u16_slice bs (node_start i) n 0 (node_start i) (omega arith) (omega arith)

  pub node_y : (i : ℕ) → 8 ≤ n → u16_at (take n (drop (node_start i) bs)) 2 ≡ (node_of bs i).y
  unfolding place_at
  node_y i h = u16_slice bs (node_start i) n 2 (node_start i + 2) (omega arith) (omega arith)

  pub node_slice : (size last i : ℕ) → 8 ≤ n → last ≡ edges_of bs * 2
      → node_fits (take n (drop (node_start i) bs)) size last 0 ≡ node_ok bs size i
  unfolding node_ok
  node_slice size last i h e =
      rw (
        e,
        u16_slice bs (node_start i) n 0 (node_start i) (omega arith) (omega arith),
        u16_slice bs (node_start i) n 2 (node_start i + 2) (omega arith) (omega arith),
        u16_slice bs (node_start i) n 6 (node_start i + 6) (omega arith) (omega arith),
      )

  pub edge_slice : (nodes vertices at : ℕ) → 16 ≤ n → edge_fits (take n (drop at bs)) nodes vertices 0 ≡ edge_fits bs nodes vertices at
  unfolding edge_fits
  edge_slice nodes vertices at h =
      rw (
        u16_slice bs at n 0 at (omega arith) (omega arith),
        u16_slice bs at n 2 (at + 2) (omega arith) (omega arith),
        u32_slice bs at n 4 (at + 4) (omega arith) (omega arith),
        u16_slice bs at n 8 (at + 8) (omega arith) (omega arith),
      )
