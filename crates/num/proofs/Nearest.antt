-- `nearest_to n i`, the single float nearest to n * 2 ^ i / 2 ^ 1074, from n's 64 leading digits: m = n * 2 ^ z, where z is the count of n's leading zeros, and
-- t = 64 - z + i, the number of digits of n * 2 ^ i. Of these the float keeps 24 and drops t - 949, or keeps fewer where its exponent is the least.
use Rattle.std.proofs.Common.{◌≡◌, ℕ, zero, suc, ◌+◌, ◌-◌, ◌*◌, ◌/◌, ◌^◌, ◌<◌, ◌≤◌, Bool, true, false, cond, not, ltb, ℤ, pos, negsuc, sym, refl, ap, ◌∙◌, ap₂, lt_of_lt_of_le, mul-le-mul_right, mul_assoc, div-lt_iff_lt-mul, mul-le-mul, mul-lt-mul_of_pos_right, mul-pos, pow-suc, le-div_iff_mul-le, zero-mul, mul-one, add-one, arith, pow_pos, pow_mono, pow-add, shl_lt, ltb-false, ltb-true, true≢false}
use lib.Count.{count_leading_zeros, leading_top}
use lib.IntN.{nat_abs}
use lib.Signed.{lt_z}
use lib.Ieee.{Format, inf, binary32, prec, emax, low, size, odd, units, round, neg, of_int, of_bits}
use lib.Ieee.Digits.{size-le}
use lib.Ieee.Fits.{round_is}
use lib.Ieee.Nearest.{closest, closest_same, div_same}
use lib.Ieee.Scale.{round_same}
use Rattle.num.specs.Convert.{nearest_to}
use Rattle.num.proofs.Closest.{closest_none, closest_ge, closest-le}
use Rattle.num.proofs.Pattern.{size_exact, units_over, infinity, pattern, pattern_small}

-- ---- powers of two

-- m * 2 ^ (a + b + c), taken apart in two ways
joined : (m a b c d e : ℕ) → a + b + c ≡ d + e → m * 2 ^ a * 2 ^ b * 2 ^ c ≡ m * 2 ^ d * 2 ^ e
joined m a b c d e h =
    ap (λ (x : ℕ). x * 2 ^ c) (mul_assoc m (2 ^ a) (2 ^ b))
    ∙ mul_assoc m (2 ^ a * 2 ^ b) (2 ^ c)
    ∙ ap (λ (x : ℕ). m * x) (ap (λ (x : ℕ). x * 2 ^ c) (sym (pow-add 2 a b)) ∙ sym (pow-add 2 (a + b) c) ∙ ap (λ (k : ℕ). 2 ^ k) h ∙ pow-add 2 d e)
    ∙ sym (mul_assoc m (2 ^ d) (2 ^ e))

-- a number of 64 bits without its leading zeros
pub leading_up : (n : ℕ) → 0 < n → n < 2 ^ 64 → (count_leading_zeros 64 n < 64) × ((2 ^ 63 ≤ n * 2 ^ count_leading_zeros 64 n) × (n * 2 ^ count_leading_zeros 64 n < 2 ^ 64))
leading_up n h l =
    let z : ℕ = count_leading_zeros 64 n in
    let d = leading_top 64 n h l in
    let e : d.0 + z ≡ 63 = omega (arith, d.1) in
    let p : 2 ^ d.0 * 2 ^ z ≡ 2 ^ 63 = sym (pow-add 2 d.0 z) ∙ ap (λ (k : ℕ). 2 ^ k) e in
    let lo : 2 ^ d.0 * 2 ^ z ≤ n * 2 ^ z = mul-le-mul_right (2 ^ z) d.2 in
    let hi : n * 2 ^ z < 2 ^ d.0 * 2 * 2 ^ z = mul-lt-mul_of_pos_right (omega (arith, d.3, pow-suc 2 d.0)) (pow_pos z) in
    (omega (arith, d.1), (omega arith, omega arith))

-- ---- the digits that are dropped, of m * 2 ^ t / 2 ^ 989 smallest floats

leading : (m k : ℕ) → 2 ^ 63 ≤ m → m < 2 ^ 64 → size (m * 2 ^ k / 2 ^ 40) ≡ 24 + k
leading m k lo hi =
    let a : 2 ^ (23 + k) ≤ m * 2 ^ k / 2 ^ 40 = (le-div_iff_mul-le (pow_pos 40)).1 (omega (arith, pow-add 2 23 k, mul-le-mul_right (2 ^ k) lo)) in
    let b : m * 2 ^ k / 2 ^ 40 < 2 ^ suc (23 + k) = (div-lt_iff_lt-mul (pow_pos 40)).1 (omega (arith, pow-suc 2 (23 + k), pow-add 2 23 k, mul-lt-mul_of_pos_right hi (pow_pos k))) in
    size_exact (23 + k) (m * 2 ^ k / 2 ^ 40) a b ∙ omega arith

over : (t : ℕ) → 949 ≤ t → t + 149 + 40 ≡ (t - 949) + 1138
over t h = omega arith

rest : (z t : ℕ) → z ≡ 24 + (t - 949) → z - 24 ≡ t - 949
rest z t e = omega arith

within : (t : ℕ) → t < 949 → 64 + t + 149 ≤ 1162
within t h = omega arith

none : (z t : ℕ) → z ≤ 24 → t < 949 → z - 24 ≡ t - 949
none z t h l = omega arith

dropped : (m t : ℕ) → 2 ^ 63 ≤ m → m < 2 ^ 64 → size (m * 2 ^ t * 2 ^ 149 / 2 ^ 1138) - 24 ≡ t - 949
dropped m t lo hi = go (ltb t 949) refl
  where
    go : (b : Bool) → ltb t 949 ≡ b → size (m * 2 ^ t * 2 ^ 149 / 2 ^ 1138) - 24 ≡ t - 949
    go true e =
        let l : t < 949 = ltb-true t 949 e in
        none (size (m * 2 ^ t * 2 ^ 149 / 2 ^ 1138)) t
        (size-le (m * 2 ^ t * 2 ^ 149 / 2 ^ 1138) 24 ((div-lt_iff_lt-mul (pow_pos 1138)).1 (lt_of_lt_of_le (shl_lt (64 + t) 149 (shl_lt 64 t hi)) (pow_mono (within t l))))) l
    go false e =
        let s : m * 2 ^ t * 2 ^ 149 / 2 ^ 1138 ≡ m * 2 ^ (t - 949) / 2 ^ 40 =
        div_same (m * 2 ^ t * 2 ^ 149) (2 ^ 1138) (m * 2 ^ (t - 949)) (2 ^ 40) (pow_pos 1138) (pow_pos 40) (joined m t 149 40 (t - 949) 1138 (over t (ltb-false t 949 e))) in
        rest (size (m * 2 ^ t * 2 ^ 149 / 2 ^ 1138)) t (ap size s ∙ leading m (t - 949) lo hi)

-- ---- the rounding, of m alone

even : (z t i : ℕ) → z + t ≡ 64 + i → z + t + 1074 ≡ i + 1138
even z t i e = omega arith

cut : (t : ℕ) → t + 149 + (40 + (949 - t)) ≡ 1138 + (t - 949)
cut t = omega arith

module _ (n i z t : ℕ) (e : z + t ≡ 64 + i) (lo : 2 ^ 63 ≤ n * 2 ^ z) (hi : n * 2 ^ z < 2 ^ 64) where
  pub nearest_units : nearest_to n i ≡ units binary32 false (closest (n * 2 ^ z) (2 ^ (40 + (949 - t)))) (t - 949)
  unfolding nearest_to
  nearest_units =
      let m : ℕ = n * 2 ^ z in
      let k : ℕ = t - 949 in
      let c : ℕ = 40 + (949 - t) in
      round_same binary32 false (n * 2 ^ i) (2 ^ 1074) (m * 2 ^ t) (2 ^ 1138) (pow_pos 1074) (pow_pos 1138) (sym (joined n z t 1074 i 1138 (even z t i e)))
      ∙ round_is binary32 false (m * 2 ^ t) (2 ^ 1138)
      ∙ ap (λ (x : ℕ). units binary32 false (closest (m * 2 ^ t * 2 ^ 149) (2 ^ 1138 * 2 ^ x)) x) (dropped m t lo hi)
      ∙ ap (λ (x : ℕ). units binary32 false x k)
      (closest_same (m * 2 ^ t * 2 ^ 149) (2 ^ 1138 * 2 ^ k) m (2 ^ c) (mul-pos (pow_pos 1138) (pow_pos k)) (pow_pos c)
      (joined m t 149 c 1138 k (cut t) ∙ mul_assoc m (2 ^ 1138) (2 ^ k)))

  -- from 2 ^ 23 of the smallest floats on

  pub kept_normal : (2 ^ 23 ≤ closest (n * 2 ^ z) (2 ^ 40)) × (closest (n * 2 ^ z) (2 ^ 40) ≤ 2 ^ 24)
  kept_normal = (closest_ge (n * 2 ^ z) (2 ^ 40) (2 ^ 23) (omega arith), closest-le (n * 2 ^ z) (2 ^ 40) (2 ^ 24) (omega arith))

  units_normal : 949 ≤ t → units binary32 false (closest (n * 2 ^ z) (2 ^ 40)) (t - 949) ≡ nearest_to n i
  units_normal h =
      let c : 40 ≡ 40 + (949 - t) = omega arith in
      ap (λ (x : ℕ). units binary32 false (closest (n * 2 ^ z) (2 ^ x)) (t - 949)) c ∙ sym nearest_units

  pub bits_normal : 949 ≤ t → t < 1203 → of_bits binary32 ((t - 949) * 8388608 + closest (n * 2 ^ z) (2 ^ 40)) ≡ nearest_to n i
  bits_normal h l =
      let k : t - 949 < 254 = omega arith in
      pattern (closest (n * 2 ^ z) (2 ^ 40)) (t - 949) kept_normal.0 kept_normal.1 k ∙ units_normal h

  pub bits_above : 1203 ≤ t → of_bits binary32 2139095040 ≡ nearest_to n i
  bits_above h =
      let l : 949 ≤ t = omega arith in
      let k : 254 ≤ t - 949 = omega arith in
      infinity ∙ sym (units_over (closest (n * 2 ^ z) (2 ^ 40)) (t - 949) (mul-le-mul kept_normal.0 (pow_mono k))) ∙ units_normal l

  -- and below

  pub kept_small : t < 949 → closest (n * 2 ^ z) (2 ^ (989 - t)) ≤ 2 ^ 23
  kept_small h =
      let p : 2 ^ 41 ≤ 2 ^ (989 - t) = pow_mono {i = 41} (omega arith) in
      closest-le (n * 2 ^ z) (2 ^ (989 - t)) (2 ^ 23) ((div-lt_iff_lt-mul (pow_pos (989 - t))).1 (omega arith))

  pub bits_small : t < 949 → of_bits binary32 (closest (n * 2 ^ z) (2 ^ (989 - t))) ≡ nearest_to n i
  bits_small h =
      let c : 989 - t ≡ 40 + (949 - t) = omega arith in
      let k : 0 ≡ t - 949 = omega arith in
      pattern_small (closest (n * 2 ^ z) (2 ^ (989 - t))) (omega (arith, kept_small h))
      ∙ ap₂ (λ (x k : ℕ). units binary32 false (closest (n * 2 ^ z) (2 ^ x)) k) c k
      ∙ sym nearest_units

  pub bits_none : t < 925 → of_bits binary32 0 ≡ nearest_to n i
  bits_none h =
      let p : 2 ^ 65 ≤ 2 ^ (989 - t) = pow_mono {i = 65} (omega arith) in
      let l : t < 949 = omega arith in
      ap (of_bits binary32) (sym (closest_none (n * 2 ^ z) (2 ^ (989 - t)) (omega arith))) ∙ bits_small l

pub nearest_zero : (i : ℕ) → of_bits binary32 0 ≡ nearest_to 0 i
unfolding nearest_to of_bits
nearest_zero i =
    sym (ap (λ (x : ℕ). round binary32 false x (2 ^ 1074)) (zero-mul (2 ^ i)) ∙ round_same binary32 false 0 (2 ^ 1074) 0 1 (pow_pos 1074) (pow_pos 0) refl ∙ (unfold round in refl))

-- ---- whole numbers

pub nearest_whole : (n : ℕ) → nearest_to n 1074 ≡ of_int binary32 (pos n)
unfolding nearest_to of_int
nearest_whole n = round_same binary32 false (n * 2 ^ 1074) (2 ^ 1074) n 1 (pow_pos 1074) (pow_pos 0) (mul-one (n * 2 ^ 1074))

-- ---- the sign goes through the rounding

pub neg-odd : (d : ℕ) (s : Bool) (q k l : ℕ) → neg (odd d s q k l) ≡ odd d (not s) q k l
unfolding neg odd
neg-odd d s zero k l = refl
neg-odd d s (suc q) k l = refl

neg-units : (f : Format) (s : Bool) (q k : ℕ) → neg (units f s q k) ≡ units f (not s) q k
unfolding units
neg-units f s q k = go (ltb (q * 2 ^ k) (2 ^ (low f + suc (emax f))))
  where
    go : (b : Bool) → neg (cond b (odd (suc (prec f)) s q k (low f)) (inf s)) ≡ cond b (odd (suc (prec f)) (not s) q k (low f)) (inf (not s))
    go true = neg-odd (suc (prec f)) s q k (low f)
    go false = unfold neg in refl

pub round-neg : (f : Format) (s : Bool) (a b : ℕ) → neg (round f s a b) ≡ round f (not s) a b
round-neg f s a b =
    let k : ℕ = size (a * 2 ^ low f / b) - prec f in
    ap neg (round_is f s a b) ∙ neg-units f s (closest (a * 2 ^ low f) (b * 2 ^ k)) k ∙ sym (round_is f (not s) a b)

pub nearest_negative : (k : ℕ) → neg (nearest_to (k + 1) 1074) ≡ of_int binary32 (negsuc k)
nearest_negative k =
    ap (λ (n : ℕ). neg (nearest_to n 1074)) (add-one k) ∙ ap neg (nearest_whole (suc k)) ∙ (unfold of_int in round-neg binary32 false (suc k) 1)

-- ---- a whole number by its size and its sign

pub nearest_below : (z : ℤ) → lt_z z (pos 0) ≡ true → neg (nearest_to (nat_abs z) 1074) ≡ of_int binary32 z
nearest_below (pos n) h = absurd (omega (arith, ltb-true n 0 h))
nearest_below (negsuc k) h = ap (λ (n : ℕ). neg (nearest_to n 1074)) (sym (add-one k)) ∙ nearest_negative k

pub nearest_above : (z : ℤ) → lt_z z (pos 0) ≡ false → nearest_to (nat_abs z) 1074 ≡ of_int binary32 z
nearest_above (pos n) h = nearest_whole n
nearest_above (negsuc k) h = absurd (true≢false h)
