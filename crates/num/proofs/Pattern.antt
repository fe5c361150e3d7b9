-- The bit patterns of single floats that are not negative: k * 2 ^ 23 + q is the pattern of q * 2 ^ k of the smallest values, also where the
-- rounding up to q = 2 ^ 24 carries into the exponent's field, and at the end of the range into the infinity's pattern.
use Rattle.std.proofs.Common.{◌≡◌, ℕ, suc, ◌+◌, ◌-◌, ◌*◌, ◌/◌, ◌%◌, ◌^◌, ◌<◌, ◌≤◌, Bool, true, false, cond, not, T, ltb, sym, refl, ap, ◌∙◌, subst, inl, inr, true≢false, le_refl, lt_of_lt_of_le, mul-le-mul_right, mod-eq_of_lt, le_antisymm, eq-or-lt_of_le, mul-lt-mul_of_pos_right, pow-suc, lt_of_not-le, mul-one, mul-div_cancel, arith, pow_pos, pow_mono, pow-add, shl_lt, le-ltb}
use lib.Ieee.{Float, nan, inf, fin, binary32, up, down, size, odd, units, fits, of_bits, to_bits, nan_bits}
use lib.Ieee.Digits.{size-lt, size-le}
use lib.Ieee.Fits.{down_pos, odd-fits, cond-fits, inf-fits}
use lib.Ieee.Exact.{HasValue, units_val}
use lib.Ieee.Bits.{of_bits-to_bits, nan_bits_above}

pub size_exact : (a n : ℕ) → 2 ^ a ≤ n → n < 2 ^ suc a → size n ≡ suc a
size_exact a n lo hi =
    let f : size n ≤ a → ⊥ = λ g. absurd (omega (arith, size-lt n, pow_mono g)) in
    le_antisymm (size-le n (suc a) hi) (lt_of_not-le f)

-- the pattern of a value that is a of the smallest ones
pub bits_of : (v : Float) (a : ℕ) → HasValue v false a (2 ^ 149) → to_bits binary32 v ≡ (size a - 24) * 8388608 + a / 2 ^ (size a - 24)
unfolding to_bits
bits_of nan a h = absurd h
bits_of (inf s) a h = absurd h
bits_of (fin true m e) a h = absurd (true≢false h.0)
bits_of (fin false m e) a h =
    let n : m * up e * 2 ^ 149 / down e ≡ a = ap (λ (x : ℕ). x / down e) h.1 ∙ mul-div_cancel a (down_pos e) in
    ap (λ (x : ℕ). 0 + (size x - 24) * 8388608 + x / 2 ^ (size x - 24)) n ∙ omega arith

-- by its 24 digits q, or fewer where the exponent is the least
bits_at : (v : Float) (a q k : ℕ) → HasValue v false a (2 ^ 149) → a ≡ q * 2 ^ k → size a - 24 ≡ k → to_bits binary32 v ≡ k * 8388608 + q
bits_at v a q k h e z =
    bits_of v a h
    ∙ ap (λ (i : ℕ). i * 8388608 + a / 2 ^ i) z
    ∙ ap (λ (x : ℕ). k * 8388608 + x) (ap (λ (x : ℕ). x / 2 ^ k) e ∙ mul-div_cancel q (pow_pos k))

dropped : (q k : ℕ) → 2 ^ 23 ≤ q → q < 2 ^ 24 → size (q * 2 ^ k) - 24 ≡ k
dropped q k lo hi =
    let a : 2 ^ (23 + k) ≤ q * 2 ^ k = omega (arith, pow-add 2 23 k, mul-le-mul_right {m = 2 ^ 23} {n = q} (2 ^ k) lo) in
    let b : q * 2 ^ k < 2 ^ suc (23 + k) = omega (arith, pow-suc 2 (23 + k), pow-add 2 23 k, mul-lt-mul_of_pos_right hi (pow_pos k)) in
    omega (arith, size_exact (23 + k) (q * 2 ^ k) a b)

units_fit : (q k : ℕ) → q ≤ 2 ^ 24 → q * 2 ^ k < 2 ^ 277 → T (fits binary32 (units binary32 false q k))
unfolding units
units_fit q k h l =
    cond-fits binary32 (ltb (q * 2 ^ k) (2 ^ 277)) (odd 25 false q k 149) (inf false) (odd-fits binary32 25 false q k (omega arith) h l) (inf-fits binary32 false)

own : (q k b : ℕ) → q ≤ 2 ^ 24 → q * 2 ^ k < 2 ^ 277 → to_bits binary32 (units binary32 false q k) ≡ b → of_bits binary32 b ≡ units binary32 false q k
own q k b h l e = ap (of_bits binary32) (sym e) ∙ of_bits-to_bits binary32 (units binary32 false q k) (units_fit q k h l)

-- ---- from 2 ^ 128 on

pub units_over : (q k : ℕ) → 2 ^ 277 ≤ q * 2 ^ k → units binary32 false q k ≡ inf false
unfolding units
units_over q k h = ap (λ (b : Bool). cond b (odd 25 false q k 149) (inf false)) (le-ltb (q * 2 ^ k) (2 ^ 277) h)

pub infinity : of_bits binary32 2139095040 ≡ inf false
unfolding of_bits
infinity = refl

-- ---- the patterns

pub pattern_small : (q : ℕ) → q < 2 ^ 24 → of_bits binary32 q ≡ units binary32 false q 0
pattern_small q h =
    let e : q * 2 ^ 0 ≡ q = mul-one q in
    let l : q * 2 ^ 0 < 2 ^ 277 = lt_of_lt_of_le (shl_lt 24 0 h) (pow_mono {i = 24} {j = 277} (omega arith)) in
    own q 0 q (omega arith) l (bits_at (units binary32 false q 0) (q * 2 ^ 0) q 0 (units_val binary32 false q 0 l) refl (omega (arith, size-le (q * 2 ^ 0) 24 (shl_lt 24 0 h))) ∙ omega arith)

-- q with all its 24 digits
full : (q k : ℕ) → 2 ^ 23 ≤ q → q < 2 ^ 24 → k < 254 → of_bits binary32 (k * 8388608 + q) ≡ units binary32 false q k
full q k lo hi g =
    let l : q * 2 ^ k < 2 ^ 277 = lt_of_lt_of_le (shl_lt 24 k hi) (pow_mono {i = 24 + k} {j = 277} (omega arith)) in
    own q k (k * 8388608 + q) (omega arith) l (bits_at (units binary32 false q k) (q * 2 ^ k) q k (units_val binary32 false q k l) refl (dropped q k lo hi))

-- 2 ^ 24 is one digit more
carried : (k : ℕ) → k < 253 → of_bits binary32 (k * 8388608 + 2 ^ 24) ≡ units binary32 false (2 ^ 24) k
carried k g =
    let e : 2 ^ 24 * 2 ^ k ≡ 2 ^ 23 * 2 ^ suc k = omega (arith, pow-suc 2 k) in
    let l : 2 ^ 24 * 2 ^ k < 2 ^ 277 = subst (λ (x : ℕ). x < 2 ^ 277) (sym e) (lt_of_lt_of_le (shl_lt 24 (suc k) (omega arith)) (pow_mono {i = 24 + suc k} {j = 277} (omega arith))) in
    let z : size (2 ^ 24 * 2 ^ k) - 24 ≡ suc k = ap (λ (x : ℕ). size x - 24) e ∙ dropped (2 ^ 23) (suc k) (omega arith) (omega arith) in
    own (2 ^ 24) k (k * 8388608 + 2 ^ 24) (omega arith) l
    (bits_at (units binary32 false (2 ^ 24) k) (2 ^ 24 * 2 ^ k) (2 ^ 23) (suc k) (units_val binary32 false (2 ^ 24) k l) e z ∙ omega arith)

pub pattern : (q k : ℕ) → 2 ^ 23 ≤ q → q ≤ 2 ^ 24 → k < 254 → of_bits binary32 (k * 8388608 + q) ≡ units binary32 false q k
pattern q k lo hi g =
    elim (eq-or-lt_of_le hi) [
      | inl e ↦ subst (λ (x : ℕ). of_bits binary32 (k * 8388608 + x) ≡ units binary32 false x k) (sym e) last
      | inr l ↦ full q k lo l g
    ]
  where
    last : of_bits binary32 (k * 8388608 + 2 ^ 24) ≡ units binary32 false (2 ^ 24) k
    last =
        elim (eq-or-lt_of_le {n = k} {m = 253} (omega arith)) [
          | inl e ↦ subst (λ (x : ℕ). of_bits binary32 (x * 8388608 + 2 ^ 24) ≡ units binary32 false (2 ^ 24) x) (sym e) (infinity ∙ sym (units_over (2 ^ 24) 253 (le_refl (2 ^ 277))))
          | inr l ↦ carried k l
        ]

-- a pattern up to the infinity's is no NaN's
pub no_nan : (b : ℕ) → b ≤ 2139095040 → T (not (nan_bits binary32 b))
no_nan b h =
    let e : b % 2147483648 ≡ b = mod-eq_of_lt (omega arith) in
    subst (λ (c : Bool). T (not c)) (sym (nan_bits_above binary32 b ∙ le-ltb 2139095040 (b % 2147483648) (omega arith))) tt
