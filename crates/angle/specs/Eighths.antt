-- The closed eighths of the circle: document 01, "a bearing lies in the same closed eighth of the circle as its vector, if that is not zero; 0 and 360 are one direction".
-- An eighth has the name of the compass point at its middle: nne is from north to north-east, 0 to 45 degrees, both ends in it. A vector on the line between two lies in both.
use Rattle.std.specs.Prelude.{ℕ, ◌+◌, Bool, false, ◌&&◌, ◌||◌, pos, Float}
use Rattle.std.specs.Float.{binary32}
use Rattle.std.specs.Float.Ieee.{le, eq, neg, of_int}
use Rattle.angle.specs.Bearing.{zero}

pub data Eighth : Type 0 where
  nne ene ese sse ssw wsw wnw nnw : Eighth

-- where it begins, in degrees clockwise from north
abbrev pub begin : Eighth → ℕ
begin nne = 0
begin ene = 45
begin ese = 90
begin sse = 135
begin ssw = 180
begin wsw = 225
begin wnw = 270
begin nnw = 315

-- its vectors, by the order of the parts' values
abbrev pub holds : Eighth → Float → Float → Bool
holds nne east north = le zero east && le east north
holds ene east north = le zero north && le north east
holds ese east north = le north zero && le (neg north) east
holds sse east north = le zero east && le east (neg north)
holds ssw east north = le east zero && le (neg east) (neg north)
holds wsw east north = le north zero && le (neg north) (neg east)
holds wnw east north = le zero north && le north (neg east)
holds nnw east north = le east zero && le (neg east) north

abbrev pub mark : ℕ → Float
mark d = of_int binary32 (pos d)

-- 0 and 360 are one direction
abbrev pub wraps : Eighth → Float → Bool
wraps nne d = eq d (mark 360)
wraps ene d = false
wraps ese d = false
wraps sse d = false
wraps ssw d = false
wraps wsw d = false
wraps wnw d = false
wraps nnw d = eq d (mark 0)

-- its bearings
abbrev pub within : Eighth → Float → Bool
within k d = (le (mark (begin k)) d && le d (mark (begin k + 45))) || wraps k d

-- a vector of no length lies in no direction
abbrev pub is_zero : Float → Float → Bool
is_zero east north = eq east zero && eq north zero
