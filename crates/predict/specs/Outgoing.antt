-- The heading that leaves a junction along an edge, over its first 25 m: `predict.rs`, `outgoing`.
use Rattle.std.specs.Prelude.{ℕ, zero, suc, ◌+◌, ◌-◌, Bool, cond, List, Float}
use Rattle.std.specs.Float.Ieee.{le}
use Rattle.tile.specs.Layout as Layout
use Rattle.geo.specs.declared.Point.{Point}
use Rattle.geo.specs.Points as Points
use Rattle.geo.specs.Flat.{whole, metres_of, length_of, bearing_of}
use Rattle.predict.specs.declared.outgoing.Leg.{Leg}

-- the number of an edge's last point: one more than it has vertices
abbrev pub last_of : Leg → ℕ
last_of leg = leg.edge.vertices + 1

-- point number i along the leg, from 0 at its start
unfoldable pub point_at : Leg → List ℕ → ℕ → Point
point_at leg bs i = Points.point_of leg.header leg.key (Layout.point_of bs leg.edge (cond leg.forward i (last_of leg - i)))

-- HEADING_SPAN_M is 25
unfoldable pub reaches : Point → Point → ℕ → Bool
reaches far origin lon_um = let m = metres_of far origin lon_um in le (whole 25) (length_of m.east m.north)

-- the first from number i on that lies 25 m or more from the start, of which `left` are before the last; else the last
unfoldable pub far_from : ℕ → Leg → List ℕ → ℕ → ℕ → Point
far_from zero leg bs lon_um i = point_at leg bs i
far_from (suc left) leg bs lon_um i =
    cond (reaches (point_at leg bs i) (point_at leg bs 0) lon_um) (point_at leg bs i) (far_from left leg bs lon_um (i + 1))

abbrev pub far_point : Leg → List ℕ → ℕ → Point
far_point leg bs lon_um = far_from leg.edge.vertices leg bs lon_um 1

unfoldable pub outgoing_of : Leg → List ℕ → ℕ → Float
outgoing_of leg bs lon_um = let m = metres_of (far_point leg bs lon_um) (point_at leg bs 0) lon_um in bearing_of m.east m.north
