-- The ratio of two magnitudes from their digits and shifts: the powers of 2 cancel, and only the difference of the shifts is left.
-- The idea: the leading digit is set unless the shift is 0, so the larger magnitude has the larger shift.
use Rattle.std.proofs.Common.{◌≡◌, ℕ, suc, ◌-◌, ◌*◌, ◌/◌, ◌^◌, ◌<◌, ◌≤◌, sym, ap, ◌∙◌, ap₂, lt_of_lt_of_le, le_of_suc-le-suc, lt_of_le_of_lt, mul-le-mul_right, mul_assoc, mul-le-mul, mul-lt-mul_of_pos_right, pow-suc, lt_of_not-le, sub-add_cancel, div-le_self, mul_right_comm, arith, pow_pos, pow_mono, pow-add}
use native.Mathlib.Nat.{div-le_of_le-mul, div-div-eq-div-mul, div-eq_of_lt, mul-div-mul_right}
use lib.Ieee.{binary32, of_bits}
use lib.Ieee.Positive.{first_pos}
use Rattle.angle.specs.Bearing.{magnitude, ratio}
use Rattle.angle.specs.Significand.{IsSignificand}
use Rattle.angle.specs.declared.circle.Scaled.{Scaled}
use Rattle.angle.proofs.Magnitude.{pattern_positive, pattern_at_most}

pub pattern_ratio_most : (lo hi : ℕ) → lo ≤ hi → hi < 2139095040 → ratio (magnitude (of_bits binary32 lo)) (magnitude (of_bits binary32 hi)) ≤ 2147483648
pattern_ratio_most lo hi h l = div-le_of_le-mul _ (mul-le-mul_right 2147483648 (pattern_at_most lo hi h l))

shifts_in_order : (m i n j : ℕ) → (0 < i → 2 ^ 23 ≤ m) → n < 2 ^ 24 → m * 2 ^ i ≤ n * 2 ^ j → i ≤ j
shifts_in_order m i n j leading below h =
    le_of_suc-le-suc
    (lt_of_not-le {n = suc j}
    (λ k. omega (arith, pow-suc 2 j, mul-le-mul {n₁ = 2 ^ 23} {n₂ = m} (leading (omega arith)) (pow_mono k), mul-lt-mul_of_pos_right {n = 2 ^ 24} below (pow_pos j))))

powers_cancel : (m i n j : ℕ) → i ≤ j → m * 2 ^ 31 / n / 2 ^ (j - i) ≡ ratio (m * 2 ^ i) (n * 2 ^ j)
powers_cancel m i n j h =
    let e : n * 2 ^ j ≡ n * 2 ^ (j - i) * 2 ^ i = ap (λ (k : ℕ). n * 2 ^ k) (sym (sub-add_cancel h)) ∙ ap (λ (x : ℕ). n * x) (pow-add 2 (j - i) i) ∙ sym (mul_assoc n (2 ^ (j - i)) (2 ^ i)) in
    div-div-eq-div-mul (m * 2 ^ 31) n (2 ^ (j - i))
    ∙ sym (mul-div-mul_right (m * 2 ^ 31) (n * 2 ^ (j - i)) (pow_pos i))
    ∙ ap₂ (λ (x y : ℕ). x / y) (mul_right_comm m (2 ^ 31) (2 ^ i)) (sym e)

module _ {lo hi : ℕ} {a b : Scaled} (p : IsSignificand lo a) (q : IsSignificand hi b) (given : (0 < hi) × ((lo ≤ hi) × (hi < 2139095040))) where
  pub digits_positive : 0 < b.digits
  digits_positive = first_pos b.digits (2 ^ b.shift) (rw q.value at (pattern_positive hi given.0 given.1.1))

  pub shift_at_most : a.shift ≤ b.shift
  shift_at_most =
      shifts_in_order a.digits a.shift b.digits b.shift p.leading q.below
      (rw (p.value, q.value) at (pattern_at_most lo hi given.1.0 given.1.1))

  pub shifted_ratio : a.digits * 2147483648 / b.digits / 2 ^ (b.shift - a.shift) ≡ ratio (magnitude (of_bits binary32 lo)) (magnitude (of_bits binary32 hi))
  shifted_ratio = rw (p.value, q.value) (powers_cancel a.digits a.shift b.digits b.shift shift_at_most)

  -- all digits are shifted out
  pub far_ratio : 63 < b.shift - a.shift → 0 ≡ ratio (magnitude (of_bits binary32 lo)) (magnitude (of_bits binary32 hi))
  far_ratio h =
      let whole : ℕ = a.digits * 2147483648 / b.digits in
      let short : whole < 2 ^ 63 = lt_of_le_of_lt (div-le_self (a.digits * 2147483648) b.digits) (omega (arith, p.below)) in
      sym (div-eq_of_lt (lt_of_lt_of_le short (pow_mono {i = 63} {j = b.shift - a.shift} (omega arith)))) ∙ shifted_ratio
