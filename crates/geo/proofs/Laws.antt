-- Laws of points, for callers to cite without unfolding a definition: in a grid within its rules nothing is held back, and a point that is there is answered.
use Prim.Native.Nat.{ℕ, ◌+◌, ◌*◌, ◌≤◌}
use mathlib.Core.Path.{◌≡◌}
use mathlib.Core.Bool.{true}
use mathlib.Core.List.{List}
use native.Mathlib.Omega.{arith}
use lib.IntN.{ℤ, pos, ◌+ℤ◌, +ℤ_assoc}
use lib.Signed.{le_z}
use Rattle.std.specs.Prelude.{Ok}
use Rattle.pack.specs.Sector.{rules}
use Rattle.pack.specs.Grid.{in_grid, corner_of, held}
use Rattle.pack.specs.declared.Header.{Header}
use Rattle.pack.specs.declared.TileKey.{TileKey}
use Rattle.pack.proofs.Signed.{add, le-true, lt_no}
use Rattle.pack.proofs.Laws.{corner_exact, corner_south, corner_west}
use Rattle.tile.specs.Readers.{has_point}
use Rattle.tile.specs.declared.Node.{Node}
use Rattle.tile.specs.declared.Edge.{Edge}
use Rattle.geo.specs.Points.{point_of, key_of, edge_point_of, edge_height_of, edge_point}

-- ---- points

-- no more than 360 degrees and a u16: 32 bits hold it
pub held_exact : (z : ℤ) (n : ℕ) → le_z z (pos 360000000) ≡ true → n ≤ 65535 → held (z +ℤ pos n) ≡ z +ℤ pos n
held_exact z n low small = rw (lt_no (pos 2147483647) (z +ℤ pos n) (omega (arith, le-true z (pos 360000000) low, add z (pos n))))

pub point_exact : (h : Header) (k : TileKey) (n : Node) → rules h ≡ true → in_grid h k ≡ true → n.y ≤ 65535 → n.x ≤ 65535
    → point_of h k n ≡ record { lat = h.south +ℤ pos (k.row * h.tile + n.y); lon = h.west +ℤ pos (k.col * h.tile + n.x) }
unfolding point_of
point_exact h k n ok is_in_grid y x =
    rw (
      held_exact (corner_of h k).south n.y (corner_south h k ok is_in_grid).1 y,
      held_exact (corner_of h k).west n.x (corner_west h k ok is_in_grid).1 x,
      corner_exact h k ok is_in_grid,
      +ℤ_assoc h.south (pos (k.row * h.tile)) (pos n.y),
      +ℤ_assoc h.west (pos (k.col * h.tile)) (pos n.x),
    )

-- ---- points of an edge

pub edge_point_at : (h : Header) (bs : List ℕ) (e : Edge) (index : ℕ) → rules h ≡ true → in_grid h (key_of bs) ≡ true → has_point bs e index ≡ true
    → edge_point h bs e index ≡ Ok (edge_point_of h bs e index, edge_height_of bs e index)
unfolding edge_point
edge_point_at h bs e index ok is_in_grid there = rw (ok, is_in_grid, there)
