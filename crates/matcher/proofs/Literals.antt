-- The figures that the code writes as single floats, by the whole numbers that they are, and infinity as the code makes it; 0 and 1 stand in
-- crate geo, 40 in ScoreLiterals. Each is computed.
use mathlib.Core.Path.{◌≡◌, refl}
use mathlib.Core.Bool.{false}
use lib.Ieee.{binary32, inf, of_bits, of_int, div}
use Rattle.geo.specs.Flat.{whole}

pub literal_2 : of_bits binary32 1073741824 ≡ whole 2
unfolding of_bits of_int
literal_2 = refl

pub literal_100 : of_bits binary32 1120403456 ≡ whole 100
unfolding of_bits of_int
literal_100 = refl

-- 1 / 0
pub infinite : div binary32 (of_bits binary32 1065353216) (of_bits binary32 0) ≡ inf false
unfolding of_bits div
infinite = refl
