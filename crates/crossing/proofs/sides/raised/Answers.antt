-- `crossing::sides::raised` meets its contract: the sum fits 64 bits, and is not negative where the test passed.
use Prim.Native.Nat.{◌<◌, ◌≤◌}
use mathlib.Core.Bool.{false}
use mathlib.Core.Path.{◌≡◌, refl, sym}
use native.Mathlib.Omega.{arith}
use lib.IntN.{ℤ, pos, negsuc, nat_abs, ◌+ℤ◌}
use lib.Signed.{lt_z}
use mir.Facts.{to_z-of_z}
use mir.Syntax.{w32, w64}
use mir.Val.{SFits}
use Rattle.pack.specs.Grid.{natural}
use Rattle.pack.proofs.Signed.{up, dn, range, fits, add, lt-true, lt_false, wide}
use Rattle.crossing.specs.Sides.{raised}
use Rattle.crossing.proofs.sides.raised.Goals as goal

natural_negative : (z : ℤ) → up z < dn z → natural z ≡ 0
natural_negative (pos n) h = absurd (omega arith)
natural_negative (negsuc n) h = refl

natural_abs : (z : ℤ) → dn z ≤ up z → natural z ≡ nat_abs z
natural_abs (pos n) h = refl
natural_abs (negsuc n) h = absurd (omega arith)

sum_fits : {z : ℤ} → SFits w32 z → SFits w64 (z +ℤ pos 360000000)
sum_fits {z} f = fits w64 (z +ℤ pos 360000000) (omega (arith, range f, add z (pos 360000000)))

sum_natural : (z : ℤ) → lt_z z (negsuc 359999999) ≡ false → dn (z +ℤ pos 360000000) ≤ up (z +ℤ pos 360000000)
sum_natural z e = omega (arith, lt_false z (negsuc 359999999) e, add z (pos 360000000))

pub returns-then-z-ltminus360000000 : goal.returns-then-z-ltminus360000000
unfolding raised
returns-then-z-ltminus360000000 c =
    let low = rw (to_z-of_z c.ranges.z) at c.if-z-ltminus360000000.true in
    sym (natural_negative (c.args.z +ℤ pos 360000000) (omega (arith, lt-true c.args.z (negsuc 359999999) low, add c.args.z (pos 360000000))))

pub returns : goal.returns
unfolding raised
returns c =
    let f = c.ranges.z in
    let low = rw (to_z-of_z f) at c.if-z-ltminus360000000.false in
    rw (wide f, to_z-of_z (sum_fits f)) (sym (natural_abs (c.args.z +ℤ pos 360000000) (sum_natural c.args.z low)))
