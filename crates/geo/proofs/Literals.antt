-- The figures that the code writes as single floats, by the whole numbers that they are. Each is computed.
use mathlib.Core.Path.{◌≡◌, refl}
use lib.Ieee.{binary32, of_bits, of_int}
use Rattle.geo.specs.Flat.{whole}

pub literal_0 : of_bits binary32 0 ≡ whole 0
unfolding of_bits of_int
literal_0 = refl

pub literal_1 : of_bits binary32 1065353216 ≡ whole 1
unfolding of_bits of_int
literal_1 = refl

pub literal_180 : of_bits binary32 1127481344 ≡ whole 180
unfolding of_bits of_int
literal_180 = refl

pub literal_360 : of_bits binary32 1135869952 ≡ whole 360
unfolding of_bits of_int
literal_360 = refl
