-- `matcher::score::height` meets its contract. A difference and a sum of two i32 fit 64 bits, and the tests hold the sum to ±1,000,000.
use mathlib.Core.Path.{◌≡◌}
use mathlib.Core.Bool.{false}
use native.Mathlib.Omega.{arith}
use lib.IntN.{ℤ, pos, negsuc, ◌+ℤ◌, ◌-ℤ◌}
use lib.Signed.{lt_z}
use mir.Facts.{to_z-of_z}
use mir.Syntax.{w32, w64}
use mir.Val.{SFits, to_z, of_z}
use Rattle.pack.proofs.Signed.{range, fits, add, sub, sf, wide, lt_false}
use Rattle.matcher.specs.Score.{height}
use Rattle.matcher.proofs.score.height.Goals as goal

-- the difference and the sum of two i32 in 64 bits, and as the code reads them back
module _ {a b : ℤ} (f : SFits w32 a) (g : SFits w32 b) where
  gap_fits : SFits w64 (to_z w64 (of_z w64 (to_z w32 (of_z w32 a))) -ℤ to_z w64 (of_z w64 (to_z w32 (of_z w32 b))))
  gap_fits = rw (wide f, wide g) (fits w64 (a -ℤ b) (omega (arith, range f, range g, sub a b)))

  gap_is : to_z w64 (of_z w64 (to_z w64 (of_z w64 (to_z w32 (of_z w32 a))) -ℤ to_z w64 (of_z w64 (to_z w32 (of_z w32 b))))) ≡ a -ℤ b
  gap_is = rw (to_z-of_z gap_fits, wide f, wide g)

  sum_fits : SFits w64 (to_z w64 (of_z w64 (to_z w32 (of_z w32 a))) +ℤ to_z w64 (of_z w64 (to_z w32 (of_z w32 b))))
  sum_fits = rw (wide f, wide g) (fits w64 (a +ℤ b) (omega (arith, range f, range g, add a b)))

  sum_is : to_z w64 (of_z w64 (to_z w64 (of_z w64 (to_z w32 (of_z w32 a))) +ℤ to_z w64 (of_z w64 (to_z w32 (of_z w32 b))))) ≡ a +ℤ b
  sum_is = rw (to_z-of_z sum_fits, wide f, wide g)

-- what passed both tests fits 32 bits
held_fits : (z : ℤ) → lt_z z (negsuc 999999) ≡ false → lt_z (pos 1000000) z ≡ false → SFits w32 z
held_fits z low high = fits w32 z (omega (arith, lt_false z (negsuc 999999) low, lt_false (pos 1000000) z high))

pub returns-then-z-ltminus1000000 : goal.returns-then-z-ltminus1000000
unfolding height
returns-then-z-ltminus1000000 c =
    let r = sf w32 c.i32_of_f32.result c.i32_of_f32.type_inv in
    rw (
      ← rw (gap_is c.ranges.zb c.ranges.za) at c.f32_of_i64.ensures,
      ← c.i32_of_f32.ensures,
      rw (sum_is c.ranges.za r) at c.if-z-ltminus1000000.true,
    )

pub returns-then-z-gt1000000 : goal.returns-then-z-gt1000000
unfolding height
returns-then-z-gt1000000 c =
    let r = sf w32 c.i32_of_f32.result c.i32_of_f32.type_inv in
    rw (
      ← rw (gap_is c.ranges.zb c.ranges.za) at c.f32_of_i64.ensures,
      ← c.i32_of_f32.ensures,
      rw (sum_is c.ranges.za r) at c.if-z-ltminus1000000.false,
      rw (sum_is c.ranges.za r) at c.if-z-gt1000000.true,
    )

pub returns : goal.returns
unfolding height
returns c =
    let sum = sum_is c.ranges.za (sf w32 c.i32_of_f32.result c.i32_of_f32.type_inv) in
    let low = rw sum at c.if-z-ltminus1000000.false in
    let high = rw sum at c.if-z-gt1000000.false in
    rw (
      ← rw (gap_is c.ranges.zb c.ranges.za) at c.f32_of_i64.ensures,
      ← c.i32_of_f32.ensures,
      low,
      high,
      sum,
      to_z-of_z (held_fits _ low high),
    )
