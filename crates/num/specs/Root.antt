-- The whole root of a number, and the correctly rounded root of a float, over whole numbers.
use Rattle.std.specs.Prelude.{ℕ, zero, suc, ◌+◌, ◌-◌, ◌*◌, ◌/◌, ◌^◌, true, false, cond, nat_le, Float}
use Prim.Native.Nat.{compare}
use Rattle.std.specs.Float.{nan, inf, fin, Format}
use Rattle.std.specs.Float.Ieee.{prec, low, up, down, size, nearest, units}

abbrev pub square : ℕ → ℕ
square r = r * r

-- the root of n, given r, that of n / 4: twice r, or one more where its square is still no more than n
abbrev pub digit : ℕ → ℕ → ℕ
digit n r = cond (nat_le (square (2 * r + 1)) n) (2 * r + 1) (2 * r)

unfoldable pub root_in : ℕ → ℕ → ℕ
root_in zero n = 0
root_in (suc d) n = digit n (root_in d (n / 4))

-- the largest r whose square is no more than n (`root_low`, `root_high`)
unfoldable pub whole_root : ℕ → ℕ
whole_root n = root_in (size n) n

-- The value of the format nearest to the root of n, where n counts squares of the format's smallest value.
-- Of the whole root r the format keeps the `prec` leading digits, q, and drops k. The root is nearer to q + 1 than to q, in units of 2 ^ k,
-- where its square n is more than that of q + 1/2; and at a tie the even one is taken.
unfoldable pub near_root : Format → ℕ → Float
near_root f n =
    let r = whole_root n in
    let k = size r - prec f in
    let q = r / 2 ^ k in
    units f false (nearest q (compare (4 * n) (square ((2 * q + 1) * 2 ^ k)))) k

-- IEEE 754, squareRoot: of -0 it is -0, and of what is below 0 it is not a number
unfoldable pub square_root : Format → Float → Float
square_root f nan = nan
square_root f (inf false) = inf false
square_root f (inf true) = nan
square_root f (fin s zero e) = fin s zero e
square_root f (fin true (suc m) e) = nan
square_root f (fin false (suc m) e) = near_root f (suc m * up e * 2 ^ (2 * low f) / down e)
