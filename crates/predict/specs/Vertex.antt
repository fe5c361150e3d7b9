-- One point more along an edge: `predict.rs`, `predict`, the vertex loop. "At the horizon the walk is left from inside the vertex loop"
-- (document 01). A walk along an edge goes by the points' numbers along its leg, from 0 at its start, whichever way that is: the Rust counts
-- its index up or down. Each float operation is rounded once, in the Rust's order.
use Rattle.std.specs.Prelude.{ℕ, ◌+◌, ◌-◌, true, cond, List, leb, ℤ, ◌-ℤ◌, Float}
use Rattle.std.specs.Float.{binary32}
use Rattle.std.specs.Float.Ieee.{of_int, to_signed, add, sub, mul, div, lt, le}
use Rattle.num.specs.Fold.{up_to}
use Rattle.num.specs.Order.{clamp}
use Rattle.tile.specs.Layout as Layout
use Rattle.tile.specs.declared.Node.{Node}
use Rattle.geo.specs.declared.Point.{Point}
use Rattle.geo.specs.Points as Points
use Rattle.geo.specs.Flat.{whole, metres_of, length_of}
use Rattle.predict.specs.declared.Course.{Course}
use Rattle.predict.specs.declared.Mark.{Mark}
use Rattle.predict.specs.Samples.{pushed}
use Rattle.predict.specs.declared.outgoing.Leg.{Leg}
use Rattle.predict.specs.Outgoing.{last_of}
use Rattle.predict.specs.declared.Trip.{Trip}
use Rattle.predict.specs.declared.Track.{Track}
use Rattle.predict.specs.Start.{less}
use Rattle.predict.specs.Incoming as Incoming

-- point number i along the leg, from 0 at its start
unfoldable pub node_at : Leg → List ℕ → ℕ → Node
node_at leg bs i = Layout.point_of bs leg.edge (cond leg.forward i (last_of leg - i))

abbrev pub step_of : Point → Point → ℕ → Float
step_of from to lon_um = let m = metres_of to from lon_um in length_of m.east m.north

-- a track, and the heights beside it
pub record Along : Type 0 where
  pub track : Track
  pub heights : List ℤ

-- ---- the horizon lies before the point

abbrev pub part_of : Float → Float → Float
part_of left step = cond (lt (whole 0) step) (clamp (div binary32 left step) (whole 0) (whole 1)) (whole 1)

abbrev pub height_there : Mark → ℤ → Float → ℤ
height_there m z t = to_signed 31 (add binary32 (of_int binary32 m.z) (mul binary32 (of_int binary32 (z -ℤ m.z)) t))

unfoldable pub reached : Trip → Track → Float → ℤ → List ℤ → Along
reached trip t step z hs =
    let there = height_there t.mark z (part_of (sub binary32 trip.horizon_m t.distance) step) in
    let p = pushed t.mark hs trip.horizon_m there in
    record {
      track = record { here = t.here; distance = trip.horizon_m; mark = p.mark; history = t.history; over = true };
      heights = p.heights;
    }

-- ---- on to the point: MAX_SAMPLES is 501

unfoldable pub passed : Track → Float → Point → ℤ → List ℤ → Along
passed t distance point z hs =
    let p = pushed t.mark hs distance z in record {
      track = record { here = point; distance = distance; mark = p.mark; history = Incoming.push t.history point distance; over = leb 501 p.mark.len };
      heights = p.heights;
    }

-- ---- point number i

abbrev pub advanced_to : Trip → ℕ → Track → Point → ℤ → List ℤ → Along
advanced_to trip lon_um t point z hs =
    let step = step_of t.here point lon_um in
    let distance = add binary32 t.distance step in
    cond (le trip.horizon_m distance) (reached trip t step z hs) (passed t distance point z hs)

unfoldable pub advanced : Trip → Leg → List ℕ → ℕ → Track → ℕ → List ℤ → Along
advanced trip leg bs lon_um t i hs =
    let node = node_at leg bs i in
    advanced_to trip lon_um t (Points.point_of leg.header leg.key node) (less (Points.z_dm node) trip.z_dm) hs

-- ---- the points from number `from` on, n of them, until the road is over

abbrev pub vertex_step : Trip → Leg → List ℕ → ℕ → ℕ → Along → ℕ → Along
vertex_step trip leg bs lon_um from a i = cond a.track.over a (advanced trip leg bs lon_um a.track (from + i) a.heights)

unfoldable pub vertices : Trip → Leg → List ℕ → ℕ → ℕ → Along → ℕ → Along
vertices trip leg bs lon_um from a n = up_to (vertex_step trip leg bs lon_um from) a n

-- to the end of the leg
abbrev pub to_end : Trip → Leg → List ℕ → ℕ → ℕ → Along → Along
to_end trip leg bs lon_um from a = vertices trip leg bs lon_um from a (last_of leg + 1 - from)

-- ---- the code's: a track whose history stands beside it, as three lists that are lent

abbrev pub track_of : Course → List ℤ → List ℤ → List Float → Track
track_of c lats lons ds = record {
  here = c.here;
  distance = c.distance;
  mark = c.mark;
  history = record { lats = lats; lons = lons; distances = ds; len = c.len };
  over = c.over;
}

abbrev pub course_of : Track → Course
course_of t = record { here = t.here; distance = t.distance; mark = t.mark; len = t.history.len; over = t.over }
