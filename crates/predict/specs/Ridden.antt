-- The road just ridden: `predict.rs`, `ridden`: "back along the matched edge for `start.ridden_m`, at most 200 m, and never past the edge's end
-- node, without a decision at any junction", and "The extra last sample of `ridden` keeps the low 16 bits" (document 01). The leg is the
-- matched edge against the direction of travel. Each float operation is rounded once, in the Rust's order.
use Rattle.std.specs.Prelude.{ℕ, ◌+◌, ◌-◌, true, ◌&&◌, not, cond, List, ltb, ℤ, pos, ◌-ℤ◌, Float, length, set}
use Rattle.std.specs.Float.{binary32}
use Rattle.std.specs.Float.Ieee.{of_int, to_signed, add, sub, mul, div, lt, le}
use Rattle.num.specs.Cast.{low16}
use Rattle.num.specs.Fold.{up_to}
use Rattle.num.specs.Order.{min}
use Rattle.geo.specs.declared.Point.{Point}
use Rattle.geo.specs.Points as Points
use Rattle.geo.specs.Flat.{whole}
use Rattle.matcher.specs.declared.Matched.{Matched}
use Rattle.predict.specs.declared.Mark.{Mark}
use Rattle.predict.specs.Samples.{sample_at, pushed}
use Rattle.predict.specs.declared.outgoing.Leg.{Leg}
use Rattle.predict.specs.Outgoing.{last_of}
use Rattle.predict.specs.declared.Trip.{Trip}
use Rattle.predict.specs.declared.ridden.Back.{Back}
use Rattle.predict.specs.declared.ridden.Behind.{Behind}
use Rattle.predict.specs.Start.{less, first_of}
use Rattle.predict.specs.Vertex.{node_at, step_of}

pub record Backs : Type 0 where
  pub back : Back
  pub heights : List ℤ

abbrev pub height_back : Mark → ℤ → Float → Float → ℤ
height_back m z reach step =
    to_signed 31 (add binary32 (of_int binary32 m.z) (div binary32 (mul binary32 (of_int binary32 (z -ℤ m.z)) (sub binary32 reach m.distance)) step))

-- the ride began before the point: exactly there
abbrev pub at_reach : Float → Back → Float → ℤ → List ℤ → Backs
at_reach reach b step z hs =
    let p = pushed b.mark hs reach (height_back b.mark z reach step) in
    record { back = record { here = b.here; distance = reach; mark = p.mark; over = true }; heights = p.heights }

-- back to the point; over where the ride goes no further
abbrev pub at_point : Float → Back → Float → Point → ℤ → List ℤ → Backs
at_point reach b distance point z hs =
    let p = pushed b.mark hs distance z in
    record { back = record { here = point; distance = distance; mark = p.mark; over = not (lt distance reach) }; heights = p.heights }

abbrev pub back_to : Float → ℕ → Back → Point → ℤ → List ℤ → Backs
back_to reach lon_um b point z hs =
    let step = step_of b.here point lon_um in
    let distance = add binary32 b.distance step in
    cond (le reach distance) (at_reach reach b step z hs) (at_point reach b distance point z hs)

unfoldable pub back_step : Trip → Leg → List ℕ → ℕ → Float → Back → ℕ → List ℤ → Backs
back_step trip leg bs lon_um reach b i hs =
    let node = node_at leg bs i in
    back_to reach lon_um b (Points.point_of leg.header leg.key node) (less (Points.z_dm node) trip.z_dm) hs

abbrev pub back_next : Trip → Leg → List ℕ → ℕ → Float → ℕ → Backs → ℕ → Backs
back_next trip leg bs lon_um reach from b i = cond b.back.over b (back_step trip leg bs lon_um reach b.back (from + i) b.heights)

-- the first n points from number `from` on
unfoldable pub backs_to : Trip → Leg → List ℕ → ℕ → Float → ℕ → Backs → ℕ → Backs
backs_to trip leg bs lon_um reach from b n = up_to (back_next trip leg bs lon_um reach from) b n

-- to the end of the leg
unfoldable pub backs : Trip → Leg → List ℕ → ℕ → Float → ℕ → Back → List ℤ → Backs
backs trip leg bs lon_um reach from b hs = backs_to trip leg bs lon_um reach from (record { back = b; heights = hs }) (last_of leg + 1 - from)

-- ---- what was written

pub record Written : Type 0 where
  pub behind : Behind
  pub heights : List ℤ

-- one sample more where the ride began a metre or more past the last of them, if there is room
unfoldable pub last_sample : Back → List ℤ → Written
last_sample b hs =
    let sampled = sample_at (b.mark.len - 1) in
    cond (le (whole 1) (sub binary32 b.distance sampled) && ltb b.mark.len (length hs))
    (record { behind = record { len = b.mark.len + 1; m = b.distance }; heights = set hs b.mark.len (low16 b.mark.z) })
    (record { behind = record { len = b.mark.len; m = sampled }; heights = hs })

abbrev pub no_mark : Mark
no_mark = record { len = 0; distance = whole 0; z = pos 0 }

abbrev pub ridden_from : Trip → Leg → List ℕ → ℕ → Float → ℕ → Point → List ℤ → Written
ridden_from trip leg bs lon_um reach from here hs =
    let p = pushed no_mark hs (whole 0) (pos 0) in
    let b = backs trip leg bs lon_um reach from (record { here = here; distance = whole 0; mark = p.mark; over = not (lt (whole 0) reach) }) p.heights in
    last_sample b.back b.heights

-- 200 m are the ten samples behind the rider's own
unfoldable pub ridden : Trip → Leg → List ℕ → ℕ → Matched → Point → List ℤ → Written
ridden trip leg bs lon_um m here hs = ridden_from trip leg bs lon_um (min m.ridden_m (whole 200)) (first_of leg m.segment) here hs
