-- `narrow`, a double as a single float, from the double's bit pattern: by its two fields the double is a whole number times a power of two of the smallest one,
-- and `nearest_to` rounds that. The sign goes through.
use Rattle.std.proofs.Common.{◌≡◌, ℕ, zero, suc, ◌+◌, ◌-◌, ◌*◌, ◌/◌, ◌%◌, ◌^◌, ◌<◌, ◌≤◌, Bool, true, false, cond, not, T, eqb, sym, refl, ap, ◌∙◌, ap₂, le_refl, mod-eq_of_lt, arith, pow_pos, ltb-false, eq-eqb, eqb-true, le-leb}
use lib.Ieee.{Float, nan, inf, fin, binary32, binary64, up, down, odd, round, neg, fits, is_nan, div, of_fields, of_bits, to_bits}
use lib.Ieee.Fits.{down_pos}
use lib.Ieee.Exact.{HasValue, odd_sign}
use lib.Ieee.Scale.{round_same}
use lib.Ieee.Bits.{is_false, of_bits-to_bits, nan_bits_is, nan_bits_above}
use borrow.Author.Tests.{lt-leb}
use Rattle.num.specs.Convert.{nearest_to, narrow}
use Rattle.num.proofs.Pattern.{infinity}
use Rattle.num.proofs.Nearest.{bits_above, neg-odd, round-neg}

-- ---- values

pub narrow_value : (v : Float) (n i : ℕ) → HasValue v false (n * 2 ^ i) (2 ^ 1074) → narrow v ≡ nearest_to n i
unfolding narrow nearest_to
narrow_value nan n i h = absurd h
narrow_value (inf s) n i h = absurd h
narrow_value (fin s m e) n i h =
    round_same binary32 s (m * up e) (down e) (n * 2 ^ i) (2 ^ 1074) (down_pos e) (pow_pos 1074) h.1 ∙ ap (λ (t : Bool). round binary32 t (n * 2 ^ i) (2 ^ 1074)) h.0

pub narrow-neg : (v : Float) → neg (narrow v) ≡ narrow (neg v)
unfolding narrow neg
narrow-neg nan = refl
narrow-neg (inf s) = refl
narrow-neg (fin s m e) = round-neg binary32 s (m * up e) (down e)

narrow_infinity : narrow (inf false) ≡ nearest_to (2 ^ 52) 2046
unfolding narrow
narrow_infinity = sym infinity ∙ bits_above (2 ^ 52) 2046 11 2099 refl (le_refl (2 ^ 63)) (omega arith) (omega arith)

-- ---- patterns up to the infinity's

module _ (b : ℕ) (h : b ≤ 9218868437227405312) where
  fields : of_bits binary64 b ≡ of_fields binary64 false (b / 4503599627370496) (b % 4503599627370496)
  unfolding of_bits
  fields =
      let e : b % 9223372036854775808 ≡ b = mod-eq_of_lt (omega arith) in
      ap₂ (λ (s : Bool) (x : ℕ). of_fields binary64 s (x / 4503599627370496) (b % 4503599627370496)) (lt-leb 9223372036854775808 b (omega arith)) e

  pub narrow_small : b / 4503599627370496 ≡ 0 → narrow (of_bits binary64 b) ≡ nearest_to (b % 4503599627370496) 0
  unfolding of_fields
  narrow_small e =
      let t : ℕ = b % 4503599627370496 in
      ap narrow (fields ∙ ap (λ (x : ℕ). of_fields binary64 false x t) e) ∙ narrow_value (odd 53 false t 0 1074) t 0 (odd_sign 53 false t 0 1074)

  pub narrow_normal : (x : ℕ) → b / 4503599627370496 ≡ suc x → narrow (of_bits binary64 b) ≡ nearest_to (4503599627370496 + b % 4503599627370496) x
  unfolding of_fields
  narrow_normal x e = ap narrow (fields ∙ ap (λ (y : ℕ). of_fields binary64 false y t) e) ∙ go (eqb (suc x) 2047) refl
    where
      t : ℕ
      t = b % 4503599627370496

      go : (c : Bool) → eqb (suc x) 2047 ≡ c → narrow (cond c (cond (eqb t 0) (inf false) nan) (odd 53 false (4503599627370496 + t) x 1074)) ≡ nearest_to (4503599627370496 + t) x
      go true c =
          let k : x ≡ 2046 = omega (arith, eqb-true (suc x) 2047 c) in
          let z : t ≡ 0 = omega arith in
          ap (λ (d : Bool). narrow (cond d (inf false) nan)) (eq-eqb t 0 z)
          ∙ narrow_infinity
          ∙ ap₂ (λ (y k : ℕ). nearest_to (4503599627370496 + y) k) (sym z) (sym k)
      go false c = narrow_value (odd 53 false (4503599627370496 + t) x 1074) (4503599627370496 + t) x (odd_sign 53 false (4503599627370496 + t) x 1074)

-- ---- the sign's bit

neg_fields : (x t : ℕ) → neg (of_fields binary64 false x t) ≡ of_fields binary64 true x t
unfolding of_fields
neg_fields zero t = neg-odd 53 false t 0 1074
neg_fields (suc x) t = go (eqb (suc x) 2047) (eqb t 0)
  where
    go : (a b : Bool)
        → neg (cond a (cond b (inf false) nan) (odd 53 false (4503599627370496 + t) x 1074)) ≡ cond a (cond b (inf true) nan) (odd 53 true (4503599627370496 + t) x 1074)
    go true true = unfold neg in refl
    go true false = unfold neg in refl
    go false b = neg-odd 53 false (4503599627370496 + t) x 1074

pub bits_neg : (b : ℕ) → 9223372036854775808 ≤ b → b < 18446744073709551616 → neg (of_bits binary64 (b - 9223372036854775808)) ≡ of_bits binary64 b
unfolding of_bits
bits_neg b h l =
    let a : ℕ = b - 9223372036854775808 in
    let e : a % 9223372036854775808 ≡ b % 9223372036854775808 = omega arith in
    let d : a % 4503599627370496 ≡ b % 4503599627370496 = omega arith in
    ap (λ (s : Bool). neg (of_fields binary64 s (a % 9223372036854775808 / 4503599627370496) (a % 4503599627370496))) (lt-leb 9223372036854775808 a (omega arith))
    ∙ neg_fields (a % 9223372036854775808 / 4503599627370496) (a % 4503599627370496)
    ∙ ap₂ (λ (x y : ℕ). of_fields binary64 true (x / 4503599627370496) y) e d
    ∙ ap (λ (s : Bool). of_fields binary64 s (b % 9223372036854775808 / 4503599627370496) (b % 4503599627370496)) (sym (le-leb 9223372036854775808 b h))

-- ---- a double's own pattern

pub bits_le : (x : Float) → T (fits binary64 x) → T (not (is_nan x)) → to_bits binary64 x % 9223372036854775808 ≤ 9218868437227405312
bits_le x f n =
    let b : ℕ = to_bits binary64 x in
    ltb-false 9218868437227405312 (b % 9223372036854775808) (sym (nan_bits_above binary64 b) ∙ nan_bits_is binary64 b ∙ ap is_nan (of_bits-to_bits binary64 x f) ∙ is_false (is_nan x) n)

pub narrow-nan : div binary32 (of_bits binary32 0) (of_bits binary32 0) ≡ narrow nan
unfolding narrow div of_bits
narrow-nan = refl
