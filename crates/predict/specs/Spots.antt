-- Where the points of an edge stand in a tile's bytes, and metres east and north one by one. Only the code of `spots` needs these: they restate
-- `point_of` of the tile's layout and `metres_of` of geo in numbers, and proofs/SpotLaws shows that they are the same.
use Rattle.std.specs.Prelude.{ℕ, ◌+◌, ◌-◌, ◌*◌, cond, List, ltb, eqb, ℤ, ◌-ℤ◌, Float}
use Rattle.std.specs.Float.{binary32}
use Rattle.std.specs.Float.Ieee.{of_int, mul}
use Rattle.tile.specs.Layout as Layout
use Rattle.geo.specs.Flat.{whole, lat_um, millionth}
use Rattle.predict.specs.declared.outgoing.Leg.{Leg}
use Rattle.predict.specs.Outgoing.{last_of}

abbrev pub vertices_at : List ℕ → ℕ
vertices_at bs = 32 + Layout.nodes_of bs * 8 + Layout.edges_of bs * 20

-- by an edge's start and end nodes, its first vertex and how many it has
abbrev pub spot_by : ℕ → ℕ → ℕ → ℕ → ℕ → ℕ → ℕ
spot_by base from to first vertices index =
    cond (eqb index 0) (32 + from * 8) (cond (ltb vertices index) (32 + to * 8) (base + (first + index - 1) * 6))

unfoldable pub spot_of : ℕ → Leg → ℕ → ℕ
spot_of base leg i =
    let e = leg.edge in spot_by base e.from e.to e.first_vertex e.vertices (cond leg.forward i (last_of leg - i))

unfoldable pub east_of : ℤ → ℤ → ℕ → Float
east_of to from lon_um = mul binary32 (mul binary32 (of_int binary32 (to -ℤ from)) (whole lon_um)) millionth

unfoldable pub north_of : ℤ → ℤ → Float
north_of to from = mul binary32 (mul binary32 (of_int binary32 (to -ℤ from)) lat_um) millionth
