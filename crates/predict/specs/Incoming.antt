-- The points passed last, and the heading at the end of an edge: `predict.rs`, `history` and `incoming`: "The road HEADING_SPAN_M back,
-- interpolated on the segment that spans it (else the oldest point kept)". Each float operation is rounded once, in the Rust's order. Assumes
-- nothing.
use Rattle.std.specs.Prelude.{Option, Some, None, ℕ, zero, suc, ◌+◌, ◌-◌, Bool, ◌&&◌, cond, List, ◌++◌, ltb, pos, Float, get_or, set, replicate, take, drop}
use Rattle.std.specs.Float.{binary32}
use Rattle.std.specs.Float.Ieee.{sub, div, lt, le}
use Rattle.num.specs.Order.{clamp}
use Rattle.geo.specs.declared.Point.{Point}
use Rattle.geo.specs.Flat.{whole, metres_of, length_of, bearing_of}
use Rattle.predict.specs.declared.History.{History}
use Rattle.predict.specs.Start.{between}

-- HISTORY is 16; the rider's own place is the first point passed
abbrev pub first : Point → History
first point = record { lats = replicate 16 point.lat; lons = replicate 16 point.lon; distances = replicate 16 (whole 0); len = 1 }

-- `copy_within(1.., 0)`: each place takes the next one's, and the last keeps its own
unfoldable pub shifted : {A : Type 0} → List A → List A
shifted v = drop 1 (take 16 v) ++ drop 15 v

-- one more behind n of them; past the sixteenth the oldest goes
unfoldable pub kept : {A : Type 0} → List A → ℕ → A → List A
kept v n x = cond (ltb n 16) (set v n x) (set (shifted v) 15 x)

abbrev pub more : ℕ → ℕ
more n = cond (ltb n 16) (n + 1) n

-- one point more, latitude, longitude and distance each behind those kept
unfoldable pub push : History → Point → Float → History
push h point distance = record {
  lats = kept h.lats h.len point.lat;
  lons = kept h.lons h.len point.lon;
  distances = kept h.distances h.len distance;
  len = more h.len;
}

abbrev pub point_at : History → ℕ → Point
point_at h i = record { lat = get_or h.lats i (pos 0); lon = get_or h.lons i (pos 0) }

abbrev pub distance_at : History → ℕ → Float
distance_at h i = get_or h.distances i (whole 0)

-- HEADING_SPAN_M is 25
abbrev pub is_back : History → Float → ℕ → Bool
is_back h distance i = ltb i 16 && le (whole 25) (sub binary32 distance (distance_at h i))

-- the highest number below n that has p
unfoldable pub highest : (ℕ → Bool) → ℕ → Option ℕ
highest p zero = None
highest p (suc n) = cond (p n) (Some n) (highest p n)

-- the latest point with one after it that lies 25 m or more back along the road
unfoldable pub back_at : History → Float → Option ℕ
back_at h distance = highest (λ (i : ℕ). is_back h distance i) (h.len - 1)

-- how far from one point to the next the road 25 m back lies
abbrev pub back_part : Float → Float → Float → Float
back_part from to distance =
    cond (lt from to) (clamp (div binary32 (sub binary32 (sub binary32 distance (whole 25)) from) (sub binary32 to from)) (whole 0) (whole 1)) (whole 0)

abbrev pub back_by : Option ℕ → History → Float → Point
back_by None h distance = point_at h 0
back_by (Some i) h distance =
    between (point_at h i) (point_at h (i + 1)) (back_part (distance_at h i) (distance_at h (i + 1)) distance)

unfoldable pub back_of : History → Float → Point
back_of h distance = back_by (back_at h distance) h distance

-- the heading from there to here; where that is no way at all, the approach's
unfoldable pub incoming : History → Point → Float → ℕ → Float → Float
incoming h here distance lon_um approach =
    let m = metres_of here (back_of h distance) lon_um in cond (lt (whole 0) (length_of m.east m.north)) (bearing_of m.east m.north) approach
