-- The figures that the code writes as single floats, by the whole numbers that they are. Each is computed.
use mathlib.Core.Path.{◌≡◌, refl}
use lib.Ieee.{binary32, of_bits, of_int}
use Rattle.predict.specs.Samples.{whole}

pub literal_0 : of_bits binary32 0 ≡ whole 0
unfolding of_bits of_int
literal_0 = refl

pub literal_20 : of_bits binary32 1101004800 ≡ whole 20
unfolding of_bits of_int
literal_20 = refl
