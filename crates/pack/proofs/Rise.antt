-- Products and sums that 64 bits hold. An i32 plus the product of a u16 and a u32: the product is small, the sum fits, and what the code
-- reads back is the sum; a product of two u16 is below 2 ^ 32.
use Prim.Native.Nat.{ℕ, ◌*◌, ◌<◌, ◌≤◌, ◌^◌}
use mathlib.Core.Path.{◌≡◌}
use native.Mathlib.Nat.{mul-le-mul}
use native.Mathlib.Omega.{arith}
use lib.IntN.{ℤ, pos, ◌+ℤ◌}
use mir.Syntax.{w16, w32, w64}
use mir.Val.{Fits, SFits, to_z, of_z}
use mir.Facts.{to_z-of_z, to_z_pos}
use Rattle.pack.proofs.Signed.{range, fits, add, wide}

module _ {count size : ℕ} (f : Fits w16 count) (g : Fits w32 size) where
  pub small : count * size < 2 ^ 48
  small =
      let h : count ≤ 65535 = omega arith in
      let k : size ≤ 4294967295 = omega arith in
      omega (arith, mul-le-mul h k)

  pub rise_is : to_z w64 (count * size) ≡ pos (count * size)
  rise_is = to_z_pos w64 {n = count * size} (omega (arith, small))

  pub sum_fits : {z : ℤ} → SFits w32 z → SFits w64 (z +ℤ pos (count * size))
  sum_fits {z} s = fits w64 (z +ℤ pos (count * size)) (omega (arith, range s, small, add z (pos (count * size))))

  -- the code's sum, read back
  pub sum_is : {z : ℤ} → SFits w32 z → to_z w64 (of_z w64 (to_z w64 (of_z w64 (to_z w32 (of_z w32 z))) +ℤ to_z w64 (count * size))) ≡ z +ℤ pos (count * size)
  sum_is s = rw (wide s, rise_is) (to_z-of_z (sum_fits s))

-- a product of two u16
pub square : {a b : ℕ} → Fits w16 a → Fits w16 b → a * b < 2 ^ 32
square {a} {b} f g =
    let h : a ≤ 65535 = omega arith in
    let k : b ≤ 65535 = omega arith in
    omega (arith, mul-le-mul h k)
