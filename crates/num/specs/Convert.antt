-- Conversions to single floats, by the kit's account of IEEE 754. Whole numbers are `lib.Ieee`'s `of_int`, clause 5.4.1, convertFromInt, to nearest with ties to even.
use Rattle.std.specs.Prelude.{ℕ, ◌*◌, ◌^◌, false, Float}
use Rattle.std.specs.Float.{nan, inf, fin, binary32}
use Rattle.std.specs.Float.Ieee.{up, down, round}

-- the single float nearest to n * 2 ^ i of the smallest double, 2 ^ -1074
unfoldable pub nearest_to : ℕ → ℕ → Float
nearest_to n i = round binary32 false (n * 2 ^ i) (2 ^ 1074)

-- a double as a single float: IEEE 754, clause 5.4.2, convertFormat
unfoldable pub narrow : Float → Float
narrow nan = nan
narrow (inf s) = inf s
narrow (fin s m e) = round binary32 s (m * up e) (down e)
