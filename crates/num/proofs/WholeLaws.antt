-- The whole part of a single float between -2 ^ 24 and 2 ^ 24, from its bit pattern (`whole_part`): with the leading digit put back, the digits are shifted
-- down by 150 less the exponent's field, and the pattern's sign goes before what is left. The field is at most 150 (`field_le`), and what is left has at most
-- 24 digits (`left_lt`), so that the cast of such a float is the same in every range of 24 bits or more (`near_cast`).
-- Below 1 the shift is 24 or more and nothing is left, so that a longer shift may stop at 31, and a field of 0, which has no leading digit, needs no care of
-- its own.
use Rattle.std.proofs.Common.{◌≡◌, ℕ, zero, suc, ◌+◌, ◌-◌, ◌*◌, ◌/◌, ◌%◌, ◌^◌, ◌<◌, ◌≤◌, min, Bool, true, false, cond, not, T, eqb, ltb, leb, ℤ, pos, neg_ℤ, sym, refl, ap, ◌∙◌, subst, ap₂, le_trans, le_of_eq, lt_of_lt_of_le, lt_of_le_of_lt, lt_irrefl, mul-le-mul_right, mod-lt, div-lt_iff_lt-mul, lt_of_mul-lt-mul_right, mul-lt-mul_of_pos_right, lt_of_not-le, div-le_self, mul_right_comm, arith, ltb→lt, pow_pos, pow_mono, pow-add, shl_lt, shr-shr, ltb-false, ltb-true}
use native.Mathlib.Nat.{div-eq_of_lt}
use lib.Pow.{shl-shr}
use lib.Ieee.{Float, nan, inf, fin, binary32, up, down, odd, fits, is_nan, of_fields, of_bits, to_bits, lt, to_signed}
use lib.Ieee.Bits.{of_bits-to_bits}
use lib.Ieee.Exact.{HasValue, odd_sign}
use lib.Ieee.Fits.{down_pos}
use lib.Ieee.Nearest.{div_same}

-- between -2 ^ 24 and 2 ^ 24
abbrev pub Near : Float → Type 0
Near v = T (lt (fin true 1 (pos 24)) v) × T (lt v (fin false 1 (pos 24)))

pub near_number : (v : Float) → Near v → T (not (is_nan v))
unfolding lt is_nan
near_number nan near = absurd near.1
near_number (inf s) near = tt
near_number (fin s m e) near = tt

no_infinity : (s : Bool) → Near (inf s) → ⊥
unfolding lt
no_infinity true near = near.0
no_infinity false near = near.1

no_nan : Near nan → ⊥
unfolding lt
no_nan near = near.1

-- a whole number by its sign and size
abbrev pub signed : Bool → ℕ → ℤ
signed s n = cond s (neg_ℤ (pos n)) (pos n)

-- ---- a float of the value a / c

-- the fraction n / d, which is a / c, is below 2 ^ 24
below_limit : (n d a c : ℕ) → 0 < c → n * c ≡ a * d → n * 1 < 1 * 2 ^ 24 * d → a < 2 ^ 24 * c
below_limit n d a c C v h =
    let l : n < 2 ^ 24 * d = omega arith in
    lt_of_mul-lt-mul_right d (lt_of_le_of_lt (le_of_eq (sym v)) (lt_of_lt_of_le (mul-lt-mul_of_pos_right l C) (le_of_eq (mul_right_comm (2 ^ 24) d c))))

value_lt : (v : Float) (s : Bool) (a c : ℕ) → 0 < c → HasValue v s a c → Near v → a < 2 ^ 24 * c
unfolding lt
value_lt nan s a c C h w = absurd h
value_lt (inf t) s a c C h w = absurd h
value_lt (fin true m e) s a c C h w = below_limit (m * up e) (down e) a c C h.1 (ltb→lt (m * up e * 1) (1 * 2 ^ 24 * down e) w.0)
value_lt (fin false m e) s a c C h w = below_limit (m * up e) (down e) a c C h.1 (ltb→lt (m * up e * 1) (1 * 2 ^ 24 * down e) w.1)

-- in any range of 24 bits or more
value_cast : (h : ℕ) → 24 ≤ h → (v : Float) (s : Bool) (a c : ℕ) → 0 < c → HasValue v s a c → a < 2 ^ 24 * c → signed s (a / c) ≡ to_signed h v
unfolding to_signed
value_cast h wide nan s a c C value l = absurd value
value_cast h wide (inf t) s a c C value l = absurd value
value_cast h wide (fin t m e) s a c C value l =
    let same : m * up e / down e ≡ a / c = div_same (m * up e) (down e) a c (down_pos e) C value.1 in
    rw (value.0, same) (go s (a / c) ((div-lt_iff_lt-mul C).1 l))
  where
    go : (s : Bool) (n : ℕ) → n < 2 ^ 24 → signed s n ≡ cond s (neg_ℤ (pos (min n (2 ^ h)))) (pos (min n (2 ^ h - 1)))
    go true n g = ap (λ (k : ℕ). neg_ℤ (pos k)) {x = n} {y = min n (2 ^ h)} (omega (arith, pow_mono wide))
    go false n g = ap pos {x = n} {y = min n (2 ^ h - 1)} (omega (arith, pow_mono wide))

-- so that it is the same in every such range
pub near_cast : (h k : ℕ) → 24 ≤ h → 24 ≤ k → (x : Float) → Near x → to_signed h x ≡ to_signed k x
near_cast h k H K nan near = absurd (no_nan near)
near_cast h k H K (inf s) near = absurd (no_infinity s near)
near_cast h k H K (fin s m e) near =
    let l : m * up e < 2 ^ 24 * down e = value_lt (fin s m e) s (m * up e) (down e) (down_pos e) (refl, refl) near in
    sym (value_cast h H (fin s m e) s (m * up e) (down e) (down_pos e) (refl, refl) l)
    ∙ value_cast k K (fin s m e) s (m * up e) (down e) (down_pos e) (refl, refl) l

-- ---- the digits t under the field x

-- what the shift leaves
abbrev pub left : ℕ → ℕ → ℕ
left x t = (t + 2 ^ 23) / 2 ^ min (150 - x) 31

-- a shift by 24 or more leaves nothing
none_left : (q k : ℕ) → q < 2 ^ 24 → 24 ≤ k → q / 2 ^ k ≡ 0
none_left q k h l = div-eq_of_lt (lt_of_lt_of_le h (pow_mono l))

-- so that a shift that stops at 31 leaves what the longer one does
stopped : (q k : ℕ) → q < 2 ^ 24 → q / 2 ^ min k 31 ≡ q / 2 ^ k
stopped q k h = go (ltb k 31) refl
  where
    go : (b : Bool) → ltb k 31 ≡ b → q / 2 ^ min k 31 ≡ q / 2 ^ k
    go true e =
        let l : k < 31 = ltb-true k 31 e in
        let same : min k 31 ≡ k = omega arith in
        ap (λ (i : ℕ). q / 2 ^ i) same
    go false e =
        let l : 31 ≤ k = ltb-false k 31 e in
        let more : 24 ≤ min k 31 = omega arith in
        let far : 24 ≤ k = omega arith in
        none_left q (min k 31) h more ∙ sym (none_left q k h far)

shifted : (q j : ℕ) → j < 150 → q / 2 ^ (149 - j) ≡ q * 2 ^ j / 2 ^ 149
shifted q j h =
    let join : j + (149 - j) ≡ 149 = omega arith in
    ap (λ (k : ℕ). k / 2 ^ (149 - j)) (sym (shl-shr q j)) ∙ shr-shr (q * 2 ^ j) j (149 - j) ∙ ap (λ (k : ℕ). q * 2 ^ j / 2 ^ k) join

-- under a field past 150 the leading digit alone is 2 ^ 24 or more
field_lt : (t j : ℕ) → (2 ^ 23 + t) * 2 ^ j < 2 ^ 24 * 2 ^ 149 → j < 150
field_lt t j h =
    lt_of_not-le (λ (g : 150 ≤ j). lt_irrefl (2 ^ 173) (lt_of_le_of_lt (le_trans (pow_mono {i = 173} {j = 23 + j} (omega arith)) (le_trans (le_of_eq (pow-add 2 23 j)) (mul-le-mul_right {m = 2 ^ 23} {n = 2 ^ 23 + t} (2 ^ j) (omega arith)))) h))

-- the whole part of v is what the shift leaves of the digits t under the field x, with the sign s
abbrev Read : Bool → ℕ → ℕ → Float → Type 0
Read s x t v = (x ≤ 150) × (signed s (left x t) ≡ to_signed 31 v)

read_small : (s : Bool) (t : ℕ) (v : Float) → t < 2 ^ 23 → HasValue v s (t * 2 ^ 0) (2 ^ 149) → Near v → Read s 0 t v
read_small s t v h value near =
    let few : t * 2 ^ 0 < 2 ^ 149 = lt_of_lt_of_le (shl_lt 23 0 h) (pow_mono {i = 23} {j = 149} (omega arith)) in
    let none : left 0 t ≡ t * 2 ^ 0 / 2 ^ 149 = none_left (t + 2 ^ 23) 31 (omega arith) (omega arith) ∙ sym (div-eq_of_lt few) in
    (omega arith, ap (signed s) none ∙ value_cast 31 (omega arith) v s (t * 2 ^ 0) (2 ^ 149) (pow_pos 149) value (value_lt v s (t * 2 ^ 0) (2 ^ 149) (pow_pos 149) value near))

read_full : (s : Bool) (j t : ℕ) (v : Float) → t < 2 ^ 23 → HasValue v s ((2 ^ 23 + t) * 2 ^ j) (2 ^ 149) → Near v → Read s (suc j) t v
read_full s j t v h value near =
    let a : ℕ = (2 ^ 23 + t) * 2 ^ j in
    let small : a < 2 ^ 24 * 2 ^ 149 = value_lt v s a (2 ^ 149) (pow_pos 149) value near in
    let low : j < 150 = field_lt t j small in
    let turned : t + 2 ^ 23 ≡ 2 ^ 23 + t = omega arith in
    let by : 150 - suc j ≡ 149 - j = omega arith in
    let is : left (suc j) t ≡ a / 2 ^ 149 =
    stopped (t + 2 ^ 23) (150 - suc j) (omega arith) ∙ ap₂ (λ (q k : ℕ). q / 2 ^ k) turned by ∙ shifted (2 ^ 23 + t) j low in
    (omega arith, ap (signed s) is ∙ value_cast 31 (omega arith) v s a (2 ^ 149) (pow_pos 149) value small)

-- a field of all ones is an infinity's or not-a-number's
read : (s : Bool) (x t : ℕ) → t < 2 ^ 23 → Near (of_fields binary32 s x t) → Read s x t (of_fields binary32 s x t)
unfolding of_fields
read s zero t h near = read_small s t (odd 24 s t 0 149) h (odd_sign 24 s t 0 149) near
read s (suc j) t h near = go (eqb (suc j) 255) (eqb t 0) near
  where
    v : Float
    v = odd 24 s (2 ^ 23 + t) j 149

    go : (top none : Bool) → Near (cond top (cond none (inf s) nan) v) → Read s (suc j) t (cond top (cond none (inf s) nan) v)
    go true true near = absurd (no_infinity s near)
    go true false near = absurd (no_nan near)
    go false none near = read_full s j t v h (odd_sign 24 s (2 ^ 23 + t) j 149) near

-- ---- the pattern

module _ (x : Float) (F : T (fits binary32 x)) (near : Near x) where
  abbrev b : ℕ
  b = to_bits binary32 x

  by_fields : Read (leb (2 ^ 31) b) (b % 2 ^ 31 / 2 ^ 23) (b % 2 ^ 23) x
  unfolding of_bits
  by_fields =
      let is : of_fields binary32 (leb (2 ^ 31) b) (b % 2 ^ 31 / 2 ^ 23) (b % 2 ^ 23) ≡ x = of_bits-to_bits binary32 x F in
      subst (λ (v : Float). Read (leb (2 ^ 31) b) (b % 2 ^ 31 / 2 ^ 23) (b % 2 ^ 23) v) is
      (read (leb (2 ^ 31) b) (b % 2 ^ 31 / 2 ^ 23) (b % 2 ^ 23) (mod-lt b (pow_pos 23)) (subst Near (sym is) near))

  pub field_le : b % 2 ^ 31 / 2 ^ 23 ≤ 150
  field_le = by_fields.0

  pub whole_part : signed (leb (2 ^ 31) b) (left (b % 2 ^ 31 / 2 ^ 23) (b % 2 ^ 31 % 2 ^ 23)) ≡ to_signed 31 x
  whole_part =
      let same : b % 2 ^ 31 % 2 ^ 23 ≡ b % 2 ^ 23 = omega arith in
      ap (λ (t : ℕ). signed (leb (2 ^ 31) b) (left (b % 2 ^ 31 / 2 ^ 23) t)) same ∙ by_fields.1

-- what is left of 24 digits has at most as many
pub left_lt : (x t : ℕ) → t < 2 ^ 23 → left x t < 2 ^ 24
left_lt x t h = lt_of_le_of_lt (div-le_self (t + 2 ^ 23) (2 ^ min (150 - x) 31)) (omega arith)
