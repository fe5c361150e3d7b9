-- The rounding of a float's root: of a number that is scaled to 49 or 50 digits the whole root has 25, and the last of them says which way to round.
-- With it the root by the fields of a bit pattern, and of what is no positive finite value.
use Rattle.std.proofs.Common.{◌≡◌, ℕ, zero, suc, ◌+◌, ◌-◌, ◌*◌, ◌/◌, ◌%◌, ◌^◌, ◌<◌, ◌≤◌, Bool, true, false, cond, T, eqb, leb, sym, refl, ap, ◌∙◌, subst, ap₂, true≢false, le_of_suc-le-suc, mul-le-mul_right, mod-eq_of_lt, mul_assoc, mul-le-mul, lt_of_mul-lt-mul_right, mul-lt-mul_of_pos_right, mul-pos, pow-suc, lt_of_not-le, zero-mul, div-mul-le_self, le_of_mul-le-mul_right, mul-div_cancel, arith, pow_pos, pow_mono, pow-add, shr-shr, ne_eqb, leb-false, leb-true}
use Prim.Native.Nat.{compare}
use native.Mathlib.Nat.{lt-mul-div-succ}
use lib.Count.{count_leading_zeros, leading_length}
use borrow.Author.Tests.{lt-leb}
use lib.Ieee.{Float, nan, inf, fin, binary32, up, down, size, nearest, odd, units, fits, of_fields, of_bits, to_bits, div}
use lib.Ieee.Fits.{down_pos}
use lib.Ieee.Exact.{HasValue, odd_sign}
use lib.Ieee.Bits.{of_bits-to_bits}
use Rattle.num.specs.Root.{square, whole_root, near_root, square_root}
use Rattle.num.proofs.Closest.{compare-lt, compare_gt}
use Rattle.num.proofs.Pattern.{size_exact, pattern}
use Rattle.num.proofs.RootLaws.{IsRoot, root_is, root_only, below}

-- ---- the root of a number times a square

root_scaled : (m p : ℕ) → 0 < p → whole_root (m * (p * p)) / p ≡ whole_root m
root_scaled m p h =
    let r : ℕ = whole_root (m * (p * p)) in
    let w : IsRoot (m * (p * p)) r = root_is (m * (p * p)) in
    let q : ℕ = r / p in
    let a : q * p ≤ r = div-mul-le_self r p in
    let b : r < p * (q + 1) = lt-mul-div-succ r h in
    let pp : 0 < p * p = mul-pos h h in
    let lo : q * q * (p * p) ≤ m * (p * p) = omega (arith, mul-le-mul {n₁ = q * p} {m₁ = q * p} {n₂ = r} {m₂ = r} a a, w.0) in
    let hi : m * (p * p) < (q + 1) * (q + 1) * (p * p) = omega (arith, mul-le-mul {n₁ = r + 1} {m₁ = r + 1} {n₂ = p * (q + 1)} {m₂ = p * (q + 1)} (omega arith) (omega arith), w.1) in
    root_only m q (le_of_mul-le-mul_right lo pp, lt_of_mul-lt-mul_right (p * p) hi)

pub root_bounds : (m : ℕ) → 2 ^ 48 ≤ m → m < 2 ^ 50 → (2 ^ 24 ≤ whole_root m) × (whole_root m < 2 ^ 25)
root_bounds m h l =
    let w : IsRoot m (whole_root m) = root_is m in
    let a : 2 ^ 24 ≤ whole_root m = below m (2 ^ 24) (whole_root m) h w.1 in
    let b : whole_root m ≤ 2 ^ 25 - 1 = below m (whole_root m) (2 ^ 25 - 1) w.0 l in
    (a, omega arith)

-- ---- the nearest: the 25th digit rounds, since an even number is no odd square

abbrev pub half : ℕ → ℕ
half m = (whole_root m + 1) / 2

nearest-half : (m p q : ℕ) → 0 < p → m % 2 ≡ 0 → q ≡ whole_root m / 2 → nearest q (compare (4 * (m * (p * p))) (square ((2 * q + 1) * (p * 2)))) ≡ half m
nearest-half m p q h e z = go (whole_root m % 2) refl (omega arith)
  where
    r : ℕ
    r = whole_root m

    w : IsRoot m (whole_root m)
    w = root_is m

    pp : 0 < p * p
    pp = mul-pos h h

    go : (d : ℕ) → whole_root m % 2 ≡ d → d < 2 → nearest q (compare (4 * (m * (p * p))) (square ((2 * q + 1) * (p * 2)))) ≡ half m
    go zero y l =
        let t : whole_root m ≡ 2 * q = omega arith in
        let k : m < square (2 * q + 1) = rw t at w.1 in
        ap (nearest q) (compare-lt (4 * (m * (p * p))) (square ((2 * q + 1) * (p * 2))) (omega (arith, mul-lt-mul_of_pos_right k pp))) ∙ omega arith
    go (suc zero) y l =
        let t : whole_root m ≡ 2 * q + 1 = omega arith in
        let k : square (2 * q + 1) ≤ m = rw t at w.0 in
        let k' : square (2 * q + 1) < m = omega (arith, k) in
        ap (nearest q) (compare_gt (4 * (m * (p * p))) (square ((2 * q + 1) * (p * 2))) (omega (arith, mul-lt-mul_of_pos_right k' pp))) ∙ omega arith
    go (suc (suc d)) y l = absurd (omega arith)

near_is : (m j : ℕ) → 2 ^ 48 ≤ m → m < 2 ^ 50 → m % 2 ≡ 0 → near_root binary32 (m * (2 ^ j * 2 ^ j)) ≡ units binary32 false (half m) (j + 1)
unfolding near_root
near_is m j h l e =
    let p : ℕ = 2 ^ j in
    let r : ℕ = whole_root (m * (p * p)) in
    let s : r / p ≡ whole_root m = root_scaled m p (pow_pos j) in
    let b : (2 ^ 24 ≤ whole_root m) × (whole_root m < 2 ^ 25) = root_bounds m h l in
    let lo : 2 ^ (24 + j) ≤ r = omega (arith, pow-add 2 24 j, div-mul-le_self r p, mul-le-mul_right {m = 2 ^ 24} {n = r / p} p (omega arith)) in
    let hi : r < 2 ^ suc (24 + j) = omega (arith, pow-suc 2 (24 + j), pow-add 2 24 j, lt-mul-div-succ r (pow_pos j), mul-le-mul_right {m = r / p + 1} {n = 2 ^ 25} p (omega arith)) in
    let k : size r - 24 ≡ j + 1 = omega (arith, size_exact (24 + j) r lo hi) in
    let q : r / 2 ^ (j + 1) ≡ whole_root m / 2 = sym (shr-shr r j 1) ∙ ap (λ (x : ℕ). x / 2) s in
    ap (λ (i : ℕ). units binary32 false (nearest (r / 2 ^ i) (compare (4 * (m * (p * p))) (square ((2 * (r / 2 ^ i) + 1) * 2 ^ i)))) i) k
    ∙ ap (λ (x : ℕ). units binary32 false x (j + 1))
    (ap (λ (x : ℕ). nearest (r / 2 ^ (j + 1)) (compare (4 * (m * (p * p))) (square ((2 * (r / 2 ^ (j + 1)) + 1) * x)))) (pow-add 2 j 1)
    ∙ nearest-half m p (r / 2 ^ (j + 1)) (pow_pos j) e q)

-- ---- values and bits

none : (n d : ℕ) → 0 < n * d → 0 ≡ n * d → ⊥
none n d h e = omega arith

regroup : (a c n d : ℕ) → a * c ≡ n * d → a * (c * c) ≡ n * c * d
regroup a c n d h = sym (mul_assoc a c c) ∙ ap (λ (x : ℕ). x * c) h ∙ omega arith

-- the root of a positive value, which is n of the smallest ones
root_of : (v : Float) (n : ℕ) → 0 < n → HasValue v false n (2 ^ 149) → square_root binary32 v ≡ near_root binary32 (n * 2 ^ 149)
unfolding square_root
root_of nan n g h = absurd h
root_of (inf s) n g h = absurd h
root_of (fin true m e) n g h = absurd (true≢false h.0)
root_of (fin false zero e) n g h = absurd (none n (down e) (mul-pos g (down_pos e)) (sym (ap (λ (x : ℕ). x * 2 ^ 149) (zero-mul (up e)) ∙ zero-mul (2 ^ 149)) ∙ h.1))
root_of (fin false (suc m) e) n g h =
    let d : suc m * up e * 2 ^ 298 ≡ n * 2 ^ 149 * down e = regroup (suc m * up e) (2 ^ 149) n (down e) h.1 in
    ap (near_root binary32) (ap (λ (x : ℕ). x / down e) d ∙ mul-div_cancel (n * 2 ^ 149) (down_pos e))

-- ---- a number m of fewer than 25 digits, scaled to 49 or 50

-- how many digits a 32-bit m has
abbrev pub digits_of : ℕ → ℕ
digits_of m = 32 - count_leading_zeros 32 m

pub digits_are : (m : ℕ) → m < 16777216 → (digits_of m ≤ 24) × ((m < 2 ^ digits_of m) × (2 ^ digits_of m ≤ 2 * m + 1))
digits_are m h =
    let l = leading_length 32 m (omega arith) in
    let e : l.0 ≡ digits_of m = omega (arith, l.1) in
    let a : m < 2 ^ digits_of m = subst (λ (k : ℕ). m < 2 ^ k) e l.2 in
    let b : 2 ^ digits_of m ≤ 2 * m + 1 = subst (λ (k : ℕ). 2 ^ k ≤ 2 * m + 1) e l.3 in
    let f : 25 ≤ digits_of m → ⊥ = λ g. absurd (omega (arith, b, pow_mono g)) in
    (le_of_suc-le-suc (lt_of_not-le f), (a, b))

-- t is the exponent and the digits together
abbrev pub shift_of : ℕ → ℕ → ℕ
shift_of n t = 49 - n + t % 2

abbrev pub wide_of : ℕ → ℕ → ℕ → ℕ
wide_of m n t = m * 2 ^ shift_of n t

wide_at : (m n d : ℕ) → d < 2 → 0 < m → n ≤ 24 → m < 2 ^ n → 2 ^ n ≤ 2 * m + 1
    → (2 ^ 48 ≤ m * 2 ^ (49 - n + d)) × ((m * 2 ^ (49 - n + d) + 2 ^ 26 ≤ 2 ^ 50) × (m * 2 ^ (49 - n + d) % 2 ≡ 0))
wide_at m zero d h g l a b = absurd (omega arith)
wide_at m (suc n) d h g l a b = go d h
  where
    c : ℕ
    c = 49 - suc n

    f : ℕ
    f = 2 ^ (49 - suc n)

    whole : 2 ^ n * 2 * f ≡ 2 ^ 49
    whole =
        let e : suc n + (49 - suc n) ≡ 49 = omega arith in
        ap (λ (x : ℕ). x * f) (sym (pow-suc 2 n)) ∙ sym (pow-add 2 (suc n) c) ∙ ap (λ (k : ℕ). 2 ^ k) e

    low : 2 ^ n * f ≤ m * f
    low = mul-le-mul_right f (omega (arith, pow-suc 2 n, b))

    high : (m + 1) * f ≤ 2 ^ n * 2 * f
    high = mul-le-mul_right f (omega (arith, pow-suc 2 n, a))

    step : 2 ^ 25 ≤ f
    step = pow_mono {i = 25} {j = c} (omega arith)

    even : f ≡ 2 ^ (48 - suc n) * 2
    even =
        let e : 49 - suc n ≡ suc (48 - suc n) = omega arith in
        ap (λ (k : ℕ). 2 ^ k) e ∙ pow-suc 2 (48 - suc n)

    go : (d : ℕ) → d < 2 → (2 ^ 48 ≤ m * 2 ^ (49 - suc n + d)) × ((m * 2 ^ (49 - suc n + d) + 2 ^ 26 ≤ 2 ^ 50) × (m * 2 ^ (49 - suc n + d) % 2 ≡ 0))
    go zero k =
        let z : m * 2 ^ (49 - suc n + 0) ≡ m * f = ap (λ (i : ℕ). m * 2 ^ i) (omega arith) in
        let y : m * f ≡ m * 2 ^ (48 - suc n) * 2 = ap (λ (i : ℕ). m * i) even ∙ omega arith in
        (omega (arith, z, whole, low), (omega (arith, z, whole, high, step), omega (arith, z, y)))
    go (suc zero) k =
        let z : m * 2 ^ (49 - suc n + 1) ≡ m * f * 2 = ap (λ (i : ℕ). m * i) (pow-add 2 (49 - suc n) 1) ∙ omega arith in
        (omega (arith, z, whole, low), (omega (arith, z, whole, high, step), omega (arith, z)))
    go (suc (suc d)) k = absurd (omega arith)

pub wide_is : (m n t : ℕ) → 0 < m → n ≤ 24 → m < 2 ^ n → 2 ^ n ≤ 2 * m + 1 → (2 ^ 48 ≤ wide_of m n t) × ((wide_of m n t + 2 ^ 26 ≤ 2 ^ 50) × (wide_of m n t % 2 ≡ 0))
wide_is m n t g l a b = wide_at m n (t % 2) (omega arith) g l a b

-- the last 24 of those digits are zeros: the others are a number of 25 or 26 digits
abbrev pub top_of : ℕ → ℕ → ℕ → ℕ
top_of m n t = m * 2 ^ (25 - n + t % 2)

pub wide_top : (m n t : ℕ) → n ≤ 24 → top_of m n t * 2 ^ 24 ≡ wide_of m n t
wide_top m n t l =
    let e : 25 - n + t % 2 + 24 ≡ shift_of n t = omega arith in
    mul_assoc m (2 ^ (25 - n + t % 2)) (2 ^ 24) ∙ ap (λ (x : ℕ). m * x) (sym (pow-add 2 (25 - n + t % 2) 24) ∙ ap (λ (k : ℕ). 2 ^ k) e)

pub top_is : (m n t : ℕ) → 0 < m → n ≤ 24 → m < 2 ^ n → 2 ^ n ≤ 2 * m + 1 → (2 ^ 24 ≤ top_of m n t) × (top_of m n t < 2 ^ 26)
top_is m n t g l a b =
    let w : (2 ^ 48 ≤ wide_of m n t) × ((wide_of m n t + 2 ^ 26 ≤ 2 ^ 50) × (wide_of m n t % 2 ≡ 0)) = wide_is m n t g l a b in
    (omega (arith, wide_top m n t l, w.0), omega (arith, wide_top m n t l, w.1.0))

half_is : (w : ℕ) → 2 ^ 48 ≤ w → w + 2 ^ 26 ≤ 2 ^ 50 → (2 ^ 23 ≤ half w) × (half w < 2 ^ 24)
half_is w h l =
    let r : IsRoot w (whole_root w) = root_is w in
    let a : 2 ^ 24 ≤ whole_root w = below w (2 ^ 24) (whole_root w) h r.1 in
    let b : whole_root w ≤ 2 ^ 25 - 2 = below w (whole_root w) (2 ^ 25 - 2) r.0 (omega arith) in
    (omega arith, omega arith)

-- the scale: m * 2 ^ s * 2 ^ 149 is the wide number times a square
scale : (m s n : ℕ) → n ≤ 24 → m * 2 ^ s * 2 ^ 149 ≡ wide_of m n (s + n) * (2 ^ ((s + n) / 2 + 50) * 2 ^ ((s + n) / 2 + 50))
scale m s n l =
    let t : ℕ = s + n in
    let j : ℕ = t / 2 + 50 in
    let e : s + 149 ≡ shift_of n t + (j + j) = omega arith in
    mul_assoc m (2 ^ s) (2 ^ 149) ∙ ap (λ (x : ℕ). m * x) (sym (pow-add 2 s 149) ∙ ap (λ (k : ℕ). 2 ^ k) e ∙ pow-add 2 (shift_of n t) (j + j) ∙ ap (λ (x : ℕ). 2 ^ shift_of n t * x) (pow-add 2 j j))
    ∙ sym (mul_assoc m (2 ^ shift_of n t) (2 ^ j * 2 ^ j))

abbrev pub pattern_of : ℕ → ℕ → ℕ → ℕ
pattern_of m s n = ((s + n) / 2 + 51) * 8388608 + half (wide_of m n (s + n))

pub rounded_is : (m s n : ℕ) → 0 < m → n ≤ 24 → m < 2 ^ n → 2 ^ n ≤ 2 * m + 1 → s ≤ 253
    → of_bits binary32 (pattern_of m s n) ≡ near_root binary32 (m * 2 ^ s * 2 ^ 149)
rounded_is m s n g l a b h =
    let w : ℕ = wide_of m n (s + n) in
    let x : (2 ^ 48 ≤ w) × ((w + 2 ^ 26 ≤ 2 ^ 50) × (w % 2 ≡ 0)) = wide_is m n (s + n) g l a b in
    let y : (2 ^ 23 ≤ half w) × (half w < 2 ^ 24) = half_is w x.0 x.1.0 in
    pattern (half w) ((s + n) / 2 + 51) y.0 (omega (arith, y.1)) (omega arith)
    ∙ ap (units binary32 false (half w)) (omega arith)
    ∙ sym (near_is w ((s + n) / 2 + 50) x.0 (omega (arith, x.1.0)) x.1.1)
    ∙ sym (ap (near_root binary32) (scale m s n l))

-- ---- the fields of a pattern below that of the infinity

module _ (b : ℕ) (h : b < 2139095040) where
  fields : of_bits binary32 b ≡ of_fields binary32 false (b / 8388608) (b % 8388608)
  unfolding of_bits
  fields =
      let e : b % 2147483648 ≡ b = mod-eq_of_lt (omega arith) in
      ap₂ (λ (s : Bool) (x : ℕ). of_fields binary32 s (x / 8388608) (b % 8388608)) (lt-leb 2147483648 b (omega arith)) e

  pub root_small : b / 8388608 ≡ 0 → 0 < b → square_root binary32 (of_bits binary32 b) ≡ near_root binary32 (b % 8388608 * 2 ^ 0 * 2 ^ 149)
  unfolding of_fields
  root_small e g =
      ap (square_root binary32) (fields ∙ ap (λ (x : ℕ). of_fields binary32 false x (b % 8388608)) e)
      ∙ root_of (odd 24 false (b % 8388608) 0 149) (b % 8388608 * 2 ^ 0) (omega arith) (odd_sign 24 false (b % 8388608) 0 149)

  pub root_normal : (x : ℕ) → b / 8388608 ≡ suc x → square_root binary32 (of_bits binary32 b) ≡ near_root binary32 ((8388608 + b % 8388608) * 2 ^ x * 2 ^ 149)
  unfolding of_fields
  root_normal x e =
      ap (square_root binary32) (fields ∙ ap (λ (y : ℕ). of_fields binary32 false y (b % 8388608)) e
      ∙ ap (λ (c : Bool). cond c (cond (eqb (b % 8388608) 0) (inf false) nan) (odd 24 false (8388608 + b % 8388608) x 149)) (ne_eqb (suc x) 255 (omega arith)))
      ∙ root_of (odd 24 false (8388608 + b % 8388608) x 149) ((8388608 + b % 8388608) * 2 ^ x) (mul-pos (omega arith) (pow_pos x)) (odd_sign 24 false (8388608 + b % 8388608) x 149)

-- ---- what is no positive finite value

root_negative : (v : Float) (n : ℕ) → 0 < n → HasValue v true n (2 ^ 149) → square_root binary32 v ≡ nan
unfolding square_root
root_negative nan n g h = refl
root_negative (inf s) n g h = absurd h
root_negative (fin false m e) n g h = absurd (true≢false (sym h.0))
root_negative (fin true zero e) n g h = absurd (none n (down e) (mul-pos g (down_pos e)) (sym (ap (λ (x : ℕ). x * 2 ^ 149) (zero-mul (up e)) ∙ zero-mul (2 ^ 149)) ∙ h.1))
root_negative (fin true (suc m) e) n g h = refl

negative : (x t : ℕ) → 0 < x * 8388608 + t → square_root binary32 (of_fields binary32 true x t) ≡ nan
unfolding of_fields
negative zero t h = root_negative (odd 24 true t 0 149) (t * 2 ^ 0) (omega arith) (odd_sign 24 true t 0 149)
negative (suc x) t h = go (eqb (suc x) 255) (eqb t 0)
  where
    above : 0 < (8388608 + t) * 2 ^ x
    above = mul-pos (omega arith) (pow_pos x)

    go : (a b : Bool) → square_root binary32 (cond a (cond b (inf true) nan) (odd 24 true (8388608 + t) x 149)) ≡ nan
    go true true = unfold square_root in refl
    go true false = unfold square_root in refl
    go false b = root_negative (odd 24 true (8388608 + t) x 149) ((8388608 + t) * 2 ^ x) above (odd_sign 24 true (8388608 + t) x 149)

pub root_else : (b : ℕ) → b < 4294967296 → 2139095040 < b → (b ≡ 2147483648 → ⊥) → square_root binary32 (of_bits binary32 b) ≡ nan
unfolding of_bits
root_else b h l n = go (leb 2147483648 b) refl
  where
    go : (s : Bool) → leb 2147483648 b ≡ s → square_root binary32 (of_fields binary32 s (b % 2147483648 / 8388608) (b % 8388608)) ≡ nan
    go true e = negative (b % 2147483648 / 8388608) (b % 8388608) (omega (arith, leb-true 2147483648 b e, n))
    go false e =
        let k : b % 2147483648 / 8388608 ≡ 255 = omega (arith, leb-false 2147483648 b e) in
        let t : b % 8388608 ≡ 0 → ⊥ = λ z. absurd (omega (arith, leb-false 2147483648 b e)) in
        ap (λ (x : ℕ). square_root binary32 (of_fields binary32 false x (b % 8388608))) k
        ∙ (unfold of_fields in ap (λ (c : Bool). square_root binary32 (cond c (inf false) nan)) (ne_eqb (b % 8388608) 0 t))
        ∙ (unfold square_root in refl)

pub root_nan : (x : Float) → x ≡ nan → x ≡ square_root binary32 x
unfolding square_root
root_nan x e = e ∙ ap (square_root binary32) (sym e)

pub zero_by_zero : div binary32 (of_bits binary32 0) (of_bits binary32 0) ≡ nan
unfolding div of_bits
zero_by_zero = refl

-- +0, the infinity and -0 are their own roots
pub root_zero : square_root binary32 (of_bits binary32 0) ≡ of_bits binary32 0
unfolding square_root of_bits
root_zero = refl

pub root_infinity : square_root binary32 (of_bits binary32 2139095040) ≡ of_bits binary32 2139095040
unfolding square_root of_bits
root_infinity = refl

pub root_minus : square_root binary32 (of_bits binary32 2147483648) ≡ of_bits binary32 2147483648
unfolding square_root of_bits
root_minus = refl

-- by a value's own pattern
pub own : (x : Float) (b : ℕ) → T (fits binary32 x) → to_bits binary32 x ≡ b → x ≡ of_bits binary32 b
own x b f e = sym (of_bits-to_bits binary32 x f) ∙ ap (of_bits binary32) e

pub fixed : (x : Float) (b : ℕ) → T (fits binary32 x) → to_bits binary32 x ≡ b → square_root binary32 (of_bits binary32 b) ≡ of_bits binary32 b → x ≡ square_root binary32 x
fixed x b f e r = own x b f e ∙ sym r ∙ ap (square_root binary32) (sym (own x b f e))
