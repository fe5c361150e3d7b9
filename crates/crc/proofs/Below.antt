-- The check sequence has 32 bits, so its number is below 2 ^ 32.
use Prim.Native.Nat.{ℕ, ◌-◌, ◌^◌, ◌≤◌, ◌<◌}
use mathlib.Core.Path.{◌≡◌, ◌∙◌}
use mathlib.Core.Bool.{Bool, true, false, not}
use mathlib.Core.List.{List, [], ◌∷◌, ◌++◌}
use native.Mathlib.Nat.{pow-suc}
use native.Mathlib.Omega.{arith}
use lib.ListN.{length, length-append, length-map, length-replicate, replicate}
use Rattle.crc.specs.Fcs.{add, remainder, zeros, number, message, fcs, crc32}
use Rattle.crc.proofs.Laws.{add-length, divide-length, zeros-length}

remainder-length : (p : List Bool) → 32 ≤ length p → length (remainder p) ≡ 32
unfolding remainder
remainder-length p h = omega (arith, divide-length (length p - 32) p (omega arith))

fcs-length : (m : List Bool) → length (fcs m) ≡ 32
unfolding fcs
fcs-length m =
    let ones : List Bool = replicate 32 true ++ zeros (length m) in
    let bits : List Bool = m ++ zeros 32 in
    let a : length (remainder ones) ≡ 32
    = remainder-length ones (omega (arith, length-append (replicate 32 true) (zeros (length m)), length-replicate 32 true)) in
    let b : length (remainder bits) ≡ 32 = remainder-length bits (omega (arith, length-append m (zeros 32), zeros-length 32)) in
    length-map (add (remainder ones) (remainder bits)) not ∙ add-length (remainder ones) (remainder bits) (omega (arith, a, b)) ∙ b

number_below : (bs : List Bool) → number bs < 2 ^ length bs
unfolding number
number_below [] = omega arith
number_below (true ∷ bs) = omega (arith, pow-suc 2 (length bs), number_below bs)
number_below (false ∷ bs) = omega (arith, pow-suc 2 (length bs), number_below bs)

pub crc_below : (os : List ℕ) → crc32 os < 0x1_0000_0000
unfolding crc32
crc_below os =
    let e : length (fcs (message os)) ≡ 32 = fcs-length (message os) in
    rw e at (number_below (fcs (message os)))
