-- The figure that the code writes as a single float, by the whole number that it is; 0 stands in crate geo. It is computed.
use mathlib.Core.Path.{◌≡◌, refl}
use lib.Ieee.{binary32, of_bits, of_int}
use Rattle.geo.specs.Flat.{whole}

pub literal_100 : of_bits binary32 1120403456 ≡ whole 100
unfolding of_bits of_int
literal_100 = refl
