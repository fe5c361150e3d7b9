-- How far a search reaches over a tile's boundary, in whole micro-degrees of latitude: the Rust's `(RADIUS_M / (LAT_UM * 1e-6)) as i32`,
-- computed.
use mathlib.Core.Path.{◌≡◌, refl}
use lib.IntN.{pos}
use lib.Ieee.{binary32, span, climb, size, odd, units, round, mul, div, of_int, to_signed, of_fields, of_bits}
use Rattle.geo.specs.Flat.{lat_um, millionth, whole}

pub reach_is : to_signed 31 (div binary32 (whole 40) (mul binary32 lat_um millionth)) ≡ pos 359
unfolding span climb size odd units round mul div of_int to_signed of_fields of_bits
reach_is = refl
