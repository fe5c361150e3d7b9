-- The magnitude of a single float from its pattern: by the pattern's fields, in the order of the patterns, and the same with the sign's bit cleared.
-- The idea: below the infinity's, patterns are in the order of what their fields count, since a field's largest count is below the next field's least.
use Rattle.std.proofs.Common.{◌≡◌, ℕ, zero, suc, ◌+◌, ◌-◌, ◌*◌, ◌/◌, ◌%◌, ◌^◌, ◌<◌, ◌≤◌, Bool, true, false, cond, ◌&&◌, ◌||◌, T, eqb, leb, sym, refl, ap, ◌∙◌, subst, ap₂, ⊎_elim, true≢false, le_of_eq, lt_of_lt_of_le, le_of_lt, mod-eq_of_lt, mul-le-mul, eq-or-lt_of_le, mul-lt-mul_of_pos_right, pow-suc, lt_of_not-le, zero-mul, mul-one, mul-div_cancel, arith, pow_pos, pow_mono, ne_eqb, eqb-true, le-leb, leb-false, leb-true}
use native.Mathlib.Nat.{div-eq_of_lt}
use mathlib.Core.Bool.{beq}
use lib.Ieee.{Float, nan, inf, fin, binary32, up, down, odd, eq, fits, of_fields, of_bits, to_bits}
use lib.Ieee.Fits.{down_pos}
use lib.Ieee.Exact.{HasValue, odd_sign}
use lib.Ieee.Bits.{of_bits-to_bits}
use borrow.Author.Tests.{lt-leb, eqb-false}
use Rattle.num.specs.Order.{is_finite}
use Rattle.angle.specs.Bearing as Bearing
use Rattle.angle.specs.Bearing.{magnitude}

-- ---- by the value

pub magnitude_of_value : (v : Float) (s : Bool) (a : ℕ) → HasValue v s a (2 ^ 149) → magnitude v ≡ a
magnitude_of_value nan s a h = absurd h
magnitude_of_value (inf t) s a h = absurd h
magnitude_of_value (fin t m e) s a h = ap (λ (x : ℕ). x / down e) h.1 ∙ mul-div_cancel a (down_pos e)

-- ---- by the fields

-- what an exponent's field with the digits t counts: a field of 0 has no leading digit
abbrev pub counted : ℕ → ℕ → ℕ
counted zero t = t
counted (suc x) t = (8388608 + t) * 2 ^ x

pub magnitude_fields : (s : Bool) (x t : ℕ) → x < 255 → magnitude (of_fields binary32 s x t) ≡ counted x t
unfolding of_fields
magnitude_fields s zero t h = magnitude_of_value (odd 24 s t 0 149) s (t * 2 ^ 0) (odd_sign 24 s t 0 149) ∙ mul-one t
magnitude_fields s (suc x) t h =
    ap (λ (c : Bool). magnitude (cond c (cond (eqb t 0) (inf s) nan) (odd 24 s (8388608 + t) x 149))) (ne_eqb (suc x) 255 (omega arith))
    ∙ magnitude_of_value (odd 24 s (8388608 + t) x 149) s ((8388608 + t) * 2 ^ x) (odd_sign 24 s (8388608 + t) x 149)

pub magnitude_pattern : (b : ℕ) → b % 2147483648 < 2139095040 → magnitude (of_bits binary32 b) ≡ counted (b % 2147483648 / 8388608) (b % 8388608)
unfolding of_bits
magnitude_pattern b h = magnitude_fields (leb 2147483648 b) (b % 2147483648 / 8388608) (b % 8388608) (omega arith)

-- with the sign clear, below the infinity's pattern
module _ (b : ℕ) (finite : b < 2139095040) where
  magnitude_clear : magnitude (of_bits binary32 b) ≡ counted (b / 8388608) (b % 8388608)
  magnitude_clear =
      let e : b % 2147483648 ≡ b = mod-eq_of_lt (omega arith) in
      magnitude_pattern b (omega arith) ∙ ap (λ (r : ℕ). counted (r / 8388608) (b % 8388608)) e

  pub magnitude_small : b / 8388608 ≡ 0 → magnitude (of_bits binary32 b) ≡ b % 8388608
  magnitude_small e = magnitude_clear ∙ ap (λ (x : ℕ). counted x (b % 8388608)) e

  pub magnitude_normal : 0 < b / 8388608 → magnitude (of_bits binary32 b) ≡ (8388608 + b % 8388608) * 2 ^ (b / 8388608 - 1)
  magnitude_normal h =
      let e : b / 8388608 ≡ suc (b / 8388608 - 1) = omega arith in
      magnitude_clear ∙ ap (λ (x : ℕ). counted x (b % 8388608)) e

-- ---- in the order of the patterns

counted_below : (x t : ℕ) → t < 8388608 → counted x t < 8388608 * 2 ^ x
counted_below zero t h = omega arith
counted_below (suc x) t h = omega (arith, pow-suc 2 x, mul-lt-mul_of_pos_right {m = 8388608 + t} {n = 16777216} (omega arith) (pow_pos x))

same_field : (x t u : ℕ) → t < u → counted x t < counted x u
same_field zero t u h = h
same_field (suc x) t u h = mul-lt-mul_of_pos_right (omega arith) (pow_pos x)

higher_field : (x y t u : ℕ) → x < y → t < 8388608 → counted x t < counted y u
higher_field x zero t u h l = absurd (omega arith)
higher_field x (suc y) t u h l = lt_of_lt_of_le (counted_below x t l) (mul-le-mul {n₁ = 8388608} {n₂ = 8388608 + u} (omega arith) (pow_mono {i = x} {j = y} (omega arith)))

counted_order : (x y t u : ℕ) → t < 8388608 → u < 8388608 → x * 8388608 + t < y * 8388608 + u → counted x t < counted y u
counted_order x y t u h l k =
    ⊎_elim
    (λ e. subst (λ (z : ℕ). counted x t < counted z u) e (same_field x t u (omega arith)))
    (λ g. higher_field x y t u g h)
    (eq-or-lt_of_le {n = x} {m = y} (omega arith))

pub pattern_below : (e n : ℕ) → e < n → n < 2139095040 → magnitude (of_bits binary32 e) < magnitude (of_bits binary32 n)
pattern_below e n h l =
    rw (magnitude_clear e (omega arith), magnitude_clear n l)
    (counted_order (e / 8388608) (n / 8388608) (e % 8388608) (n % 8388608) (omega arith) (omega arith) (omega arith))

pub pattern_at_most : (e n : ℕ) → e ≤ n → n < 2139095040 → magnitude (of_bits binary32 e) ≤ magnitude (of_bits binary32 n)
pattern_at_most e n h l = ⊎_elim (λ z. le_of_eq (ap (λ (b : ℕ). magnitude (of_bits binary32 b)) z)) (λ k. le_of_lt (pattern_below e n k l)) (eq-or-lt_of_le h)

pub pattern_order : (e n : ℕ) → e < 2139095040 → n < 2139095040 → leb (magnitude (of_bits binary32 e)) (magnitude (of_bits binary32 n)) ≡ leb e n
pattern_order e n h l = go (leb e n) refl
  where
    go : (b : Bool) → leb e n ≡ b → leb (magnitude (of_bits binary32 e)) (magnitude (of_bits binary32 n)) ≡ b
    go true k = le-leb _ _ (pattern_at_most e n (leb-true e n k) l)
    go false k = lt-leb _ _ (pattern_below n e (leb-false e n k) h)

pub pattern_positive : (b : ℕ) → 0 < b → b < 2139095040 → 0 < magnitude (of_bits binary32 b)
pattern_positive b h l = omega (arith, pattern_below 0 b h l)

-- ---- the pattern of a finite value, without its sign

beyond_finite : (s : Bool) (t : ℕ) → is_finite (of_fields binary32 s 255 t) ≡ false
unfolding of_fields
beyond_finite s t = go (eqb t 0)
  where
    go : (c : Bool) → is_finite (cond c (inf s) nan) ≡ false
    go true = refl
    go false = refl

pub finite_pattern : (b : ℕ) → is_finite (of_bits binary32 b) ≡ true → b % 2147483648 < 2139095040
unfolding of_bits
finite_pattern b h =
    lt_of_not-le
    (λ k.
    let x : b % 2147483648 / 8388608 ≡ 255 = omega arith in
    true≢false (sym h ∙ ap (λ (y : ℕ). is_finite (of_fields binary32 (leb 2147483648 b) y (b % 8388608))) x ∙ beyond_finite (leb 2147483648 b) (b % 8388608)))

pub magnitude_unsigned : (b : ℕ) → b % 2147483648 < 2139095040 → magnitude (of_bits binary32 b) ≡ magnitude (of_bits binary32 (b % 2147483648))
magnitude_unsigned b h =
    let x : b % 2147483648 ≡ b % 2147483648 % 2147483648 = omega arith in
    let t : b % 8388608 ≡ b % 2147483648 % 8388608 = omega arith in
    magnitude_pattern b h ∙ ap₂ (λ (y u : ℕ). counted (y / 8388608) u) x t ∙ sym (magnitude_pattern (b % 2147483648) (omega arith))

signed_zero : (s : Bool) → eq (of_fields binary32 s 0 0) Bearing.zero ≡ true
unfolding of_fields odd eq
signed_zero true = refl
signed_zero false = refl

is_zero : (b : ℕ) → b % 2147483648 ≡ 0 → eq (of_bits binary32 b) Bearing.zero ≡ true
unfolding of_bits
is_zero b h =
    let t : b % 8388608 ≡ 0 = omega arith in
    ap₂ (λ (r u : ℕ). eq (of_fields binary32 (leb 2147483648 b) (r / 8388608) u) Bearing.zero) h t ∙ signed_zero (leb 2147483648 b)

not_zero : (v : Float) → 0 < magnitude v → eq v Bearing.zero ≡ false
unfolding eq
not_zero nan h = refl
not_zero (inf s) h = refl
not_zero (fin s m e) h =
    ap (λ (c : Bool). c && (beq s false || eqb (m * up e * 1) 0)) (ne_eqb (m * up e * 1) (0 * 2 ^ 0 * down e) (λ z. none (sym (mul-one (m * up e)) ∙ z ∙ zero-mul (down e))))
  where
    none : m * up e ≡ 0 → ⊥
    none z = let y : m * up e * 2 ^ 149 / down e ≡ 0 = ap (λ (x : ℕ). x * 2 ^ 149 / down e) z ∙ div-eq_of_lt (down_pos e) in omega (arith, y, h)

pub zero_pattern : (b : ℕ) → b % 2147483648 < 2139095040 → eq (of_bits binary32 b) Bearing.zero ≡ eqb (b % 2147483648) 0
zero_pattern b h = go (eqb (b % 2147483648) 0) refl
  where
    go : (c : Bool) → eqb (b % 2147483648) 0 ≡ c → eq (of_bits binary32 b) Bearing.zero ≡ c
    go true k = is_zero b (eqb-true _ _ k)
    go false k = not_zero (of_bits binary32 b) (rw (magnitude_unsigned b h) (pattern_positive (b % 2147483648) (omega (arith, eqb-false (b % 2147483648) 0 k)) h))

module _ (x : Float) (held : T (fits binary32 x)) (finite : is_finite x ≡ true) where
  own : of_bits binary32 (to_bits binary32 x) ≡ x
  own = of_bits-to_bits binary32 x held

  pub bits_finite : to_bits binary32 x % 2147483648 < 2139095040
  bits_finite = finite_pattern (to_bits binary32 x) (ap is_finite own ∙ finite)

  pub magnitude_bits : magnitude x ≡ magnitude (of_bits binary32 (to_bits binary32 x % 2147483648))
  magnitude_bits = sym (ap magnitude own) ∙ magnitude_unsigned (to_bits binary32 x) bits_finite

  pub zero_bits : eq x Bearing.zero ≡ eqb (to_bits binary32 x % 2147483648) 0
  zero_bits = sym (ap (λ (v : Float). eq v Bearing.zero) own) ∙ zero_pattern (to_bits binary32 x) bits_finite
