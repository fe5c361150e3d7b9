-- The longest horizon, which the code writes as a single float, by the whole number that it is; 0 stands in crate geo, 15 in crate matcher. It is
-- computed.
use Rattle.std.proofs.Common.{◌≡◌, refl}
use lib.Ieee.{binary32, of_bits, of_int}
use Rattle.geo.specs.Flat.{whole}

pub literal_10000 : of_bits binary32 1176256512 ≡ whole 10000
unfolding of_bits of_int
literal_10000 = refl
