-- Flat-earth geometry in metres: `geo.rs`, metres_from, length, turn, project. Each operation is one of IEEE 754 on single floats, in the Rust's order, rounded once.
use Rattle.std.specs.Prelude.{Result, Ok, Err}
use Rattle.refusal.specs.declared.Refusal.{Refusal}
use Rattle.std.specs.Prelude.{ℕ, Bool, ◌&&◌, cond, pos, ◌-ℤ◌, Float}
use Rattle.std.specs.Result.{result_unwrap_or}
use Rattle.std.specs.Float.{binary32}
use Rattle.std.specs.Float.Ieee.{of_bits, of_int, add, sub, mul, div, neg, lt, le}
use Rattle.num.specs.Order.{is_finite, clamp}
use Rattle.num.specs.Root.{square_root}
use Rattle.pack.specs.Grid.{is_point}
use Rattle.angle.specs.Bearing as Bearing
use Rattle.geo.specs.declared.Point.{Point}
use Rattle.geo.specs.declared.Metres.{Metres}
use Rattle.geo.specs.declared.Projected.{Projected}

-- ---- figures

-- LAT_UM: micrometres per micro-degree of latitude, 111,195
abbrev pub lat_um : Float
lat_um = of_bits binary32 0x47d92d80

-- 1e-6
abbrev pub millionth : Float
millionth = of_bits binary32 0x358637bd

abbrev pub whole : ℕ → Float
whole n = of_int binary32 (pos n)

-- ---- what the steps give

-- metres east and north of an origin, the longitude scaled by lon_um
unfoldable pub metres_of : Point → Point → ℕ → Metres
metres_of p o lon_um = record {
  east = mul binary32 (mul binary32 (of_int binary32 (p.lon -ℤ o.lon)) (whole lon_um)) millionth;
  north = mul binary32 (mul binary32 (of_int binary32 (p.lat -ℤ o.lat)) lat_um) millionth;
}

unfoldable pub length_of : Float → Float → Float
length_of east north = square_root binary32 (add binary32 (mul binary32 east east) (mul binary32 north north))

-- while above 180, less 360; while at or below -180, more 360. Between headings of at most 360 either way, two turns of each loop are enough.
abbrev pub lowered : Float → Float
lowered d = cond (lt (whole 180) d) (sub binary32 d (whole 360)) d

abbrev pub raised : Float → Float
raised d = cond (le d (neg (whole 180))) (add binary32 d (whole 360)) d

unfoldable pub turn_of : Float → Float → Float
turn_of from to = raised (raised (lowered (lowered (sub binary32 to from))))

-- where p projects onto the segment from a to b: the fraction along it, held to 0 to 1, and the distance
abbrev pub fraction_of : Metres → Metres → Float → Float → Float
fraction_of p a dx dy =
    let len2 = add binary32 (mul binary32 dx dx) (mul binary32 dy dy) in
    let dot = add binary32 (mul binary32 (sub binary32 p.east a.east) dx) (mul binary32 (sub binary32 p.north a.north) dy) in
    cond (lt (whole 0) len2) (clamp (div binary32 dot len2) (whole 0) (whole 1)) (whole 0)

abbrev pub projected_at : Metres → Metres → Float → Float → Float → Projected
projected_at p a dx dy t = record {
  fraction = t;
  distance = length_of (sub binary32 p.east (add binary32 a.east (mul binary32 t dx))) (sub binary32 p.north (add binary32 a.north (mul binary32 t dy)));
}

unfoldable pub project_of : Metres → Metres → Metres → Projected
project_of p a b =
    let dx = sub binary32 b.east a.east in
    let dy = sub binary32 b.north a.north in
    projected_at p a dx dy (fraction_of p a dx dy)

-- a bearing as a figure; a vector that is not finite, which no call makes of points, counts as north
abbrev pub figure_of : Result Float Refusal → Float
figure_of r = result_unwrap_or r (whole 0)

unfoldable pub bearing_of : Float → Float → Float
bearing_of east north = figure_of (Bearing.bearing east north)

-- ---- the public functions, with 8 for a point beyond ±360,000,000, a figure that is not finite, a heading that is not a number or beyond ±360

unfoldable pub metres_from : Point → Point → ℕ → Result Metres Refusal
metres_from p o lon_um =
    cond (is_point p.lat p.lon && is_point o.lat o.lon) (Ok (metres_of p o lon_um)) (Err Refusal.OutOfRange)

unfoldable pub length : Float → Float → Result Float Refusal
length east north = cond (is_finite east && is_finite north) (Ok (length_of east north)) (Err Refusal.OutOfRange)

abbrev pub is_heading : Float → Bool
is_heading d = le (neg (whole 360)) d && le d (whole 360)

unfoldable pub turn : Float → Float → Result Float Refusal
turn from to = cond (is_heading from && is_heading to) (Ok (turn_of from to)) (Err Refusal.OutOfRange)

abbrev pub are_finite : Metres → Bool
are_finite m = is_finite m.east && is_finite m.north

unfoldable pub project : Metres → Metres → Metres → Result Projected Refusal
project p a b = cond (are_finite p && (are_finite a && are_finite b)) (Ok (project_of p a b)) (Err Refusal.OutOfRange)
