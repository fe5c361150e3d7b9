-- The figures that the code writes as single floats, by the whole numbers that they are; 0, 1 and 180 stand in crate geo. Each is computed.
use mathlib.Core.Path.{◌≡◌, refl}
use lib.Ieee.{binary32, of_bits, of_int}
use Rattle.geo.specs.Flat.{whole}

pub literal_4 : of_bits binary32 1082130432 ≡ whole 4
unfolding of_bits of_int
literal_4 = refl

pub literal_15 : of_bits binary32 1097859072 ≡ whole 15
unfolding of_bits of_int
literal_15 = refl

pub literal_35 : of_bits binary32 1108082688 ≡ whole 35
unfolding of_bits of_int
literal_35 = refl

pub literal_40 : of_bits binary32 1109393408 ≡ whole 40
unfolding of_bits of_int
literal_40 = refl

pub literal_60 : of_bits binary32 1114636288 ≡ whole 60
unfolding of_bits of_int
literal_60 = refl

pub literal_90 : of_bits binary32 1119092736 ≡ whole 90
unfolding of_bits of_int
literal_90 = refl

pub literal_135 : of_bits binary32 1124532224 ≡ whole 135
unfolding of_bits of_int
literal_135 = refl
