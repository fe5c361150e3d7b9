-- A difference of two i32 fits 64 bits, so the code reads it back as it is. The idea: its size is at most the sum of theirs and 2. Assumes
-- nothing.
use Prim.Native.Nat.{ℕ, zero, suc, ◌+◌, ◌-◌, ◌^◌, ◌<◌, ◌≤◌}
use mathlib.Core.Path.{◌≡◌, refl, ◌∙◌}
use mathlib.Core.Bool.{Bool, true, false, cond}
use native.Mathlib.Omega.{arith}
use lib.Dec.{ltb}
use lib.IntN.{ℤ, pos, negsuc, neg_ℤ, sub_ℕ, ◌+ℤ◌, ◌-ℤ◌}
use lib.Signed.{mag}
use mir.Facts.{to_z-of_z, sfits_widen}
use mir.Syntax.{Width, w32, w64}
use mir.Val.{SFits, hbits, to_z, of_z}
use borrow.Author.Tests.{ltb-true, ltb-false}

less_size : (a b : ℕ) → mag (sub_ℕ a b) ≤ a + b
less_size a b = go (ltb a b) refl
  where
    go : (t : Bool) → ltb a b ≡ t → mag (cond t (negsuc (b - suc a)) (pos (a - b))) ≤ a + b
    go true e = omega (arith, ltb-true a b e)
    go false e = omega (arith, ltb-false a b e)

sum_size : (a b : ℤ) → mag (a +ℤ b) ≤ mag a + mag b + 1
sum_size (pos a) (pos b) = omega arith
sum_size (pos a) (negsuc b) = omega (arith, less_size a (suc b))
sum_size (negsuc a) (pos b) = omega (arith, less_size b (suc a))
sum_size (negsuc a) (negsuc b) = omega arith

minus_size : (z : ℤ) → mag (neg_ℤ z) ≤ mag z + 1
minus_size (pos zero) = omega arith
minus_size (pos (suc n)) = omega arith
minus_size (negsuc n) = omega arith

-- from a bound alone, as a callee's `.ok` and a struct's `.struct_told` have it
pub sf : (w : Width) (z : ℤ) → mag z < 2 ^ hbits w → SFits w z
sf w z h = record { sfits = h }

pub got : (w : Width) {z : ℤ} → mag z < 2 ^ hbits w → to_z w (of_z w z) ≡ z
got w h = to_z-of_z {w = w} (record { sfits = h })

-- an i32 as an i64, and as the code reads it back
module _ {z : ℤ} (f : SFits w32 z) where
  pub widens : SFits w64 (to_z w32 (of_z w32 z))
  widens = rw (to_z-of_z f) (sfits_widen {w = w32} {w' = w64} tt f)

  pub wide : to_z w64 (of_z w64 (to_z w32 (of_z w32 z))) ≡ z
  wide = to_z-of_z widens ∙ to_z-of_z f

-- and the difference of two
module _ {a b : ℤ} (f : SFits w32 a) (g : SFits w32 b) where
  pub gap_fits : SFits w64 (to_z w64 (of_z w64 (to_z w32 (of_z w32 a))) -ℤ to_z w64 (of_z w64 (to_z w32 (of_z w32 b))))
  gap_fits = rw (wide f, wide g) (record { sfits = omega (arith, f.sfits, g.sfits, sum_size a (neg_ℤ b), minus_size b) })

  pub gap_is : to_z w64 (of_z w64 (to_z w64 (of_z w64 (to_z w32 (of_z w32 a))) -ℤ to_z w64 (of_z w64 (to_z w32 (of_z w32 b))))) ≡ a -ℤ b
  gap_is = rw (to_z-of_z gap_fits, wide f, wide g)
