-- `predict::cost::with_class` meets its contract. A difference of two bytes fits 32 bits, so what is tested is the definition's.
use Prim.Native.Nat.{ℕ}
use mathlib.Core.Path.{◌≡◌}
use native.Mathlib.Omega.{arith}
use lib.IntN.{pos, ◌-ℤ◌}
use mir.Facts.{to_z-of_z, to_z_pos}
use mir.Syntax.{w8, w32}
use mir.Val.{Fits, SFits, to_z, of_z}
use Rattle.pack.proofs.Signed.{fits, sub}
use Rattle.predict.specs.Cost.{with_class}
use Rattle.predict.proofs.cost.with_class.Goals as goal

-- the step from one class to another, and as the code reads it back
module _ {a b : ℕ} (f : Fits w8 a) (g : Fits w8 b) where
  step_is : to_z w32 a -ℤ to_z w32 b ≡ pos a -ℤ pos b
  step_is = rw (to_z_pos w32 {n = a} (omega arith), to_z_pos w32 {n = b} (omega arith))

  step_fits : SFits w32 (to_z w32 a -ℤ to_z w32 b)
  step_fits = rw step_is (fits w32 (pos a -ℤ pos b) (omega (arith, sub (pos a) (pos b))))

  read_is : to_z w32 (of_z w32 (to_z w32 a -ℤ to_z w32 b)) ≡ pos a -ℤ pos b
  read_is = rw (to_z-of_z step_fits, step_is)

pub returns-then-step-gt0 : goal.returns-then-step-gt0
unfolding with_class
returns-then-step-gt0 c =
    let step = read_is c.struct_known-1.given.1.1.1.1.0 c.struct_known-2-1.given.0 in
    rw (rw step at c.f32_of_i32.ensures, rw step at c.if-step-gt0.true)

pub returns : goal.returns
unfolding with_class
returns c =
    let step = read_is c.struct_known-1.given.1.1.1.1.0 c.struct_known-2-1.given.0 in
    rw (rw step at c.f32_of_i32-2.ensures, rw step at c.if-step-gt0.false)
