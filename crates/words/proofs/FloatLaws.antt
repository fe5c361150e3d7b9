-- Numbers as words: patterns of not-a-number, and 16 bits in 32.
use Rattle.std.proofs.Common.{◌≡◌, ℕ, ◌%◌, ◌<◌, true, ℤ, sym, refl, ◌∙◌, true≢false, arith, w16, w32, SFits, lt-ltb}
use lib.Ieee.{Float, nan, inf, fin, is_nan, binary32, of_bits, of_fields, odd, div}
use lib.Ieee.Bits.{nan_bits_is, nan_bits_above}

is_nan_lem : (x : Float) → is_nan x ≡ true → x ≡ nan
unfolding is_nan
is_nan_lem nan h = refl
is_nan_lem (inf s) h = absurd (true≢false (sym h))
is_nan_lem (fin s m e) h = absurd (true≢false (sym h))

-- how the code makes one
pub nan_is : div binary32 (of_bits binary32 0) (of_bits binary32 0) ≡ nan
unfolding div of_bits of_fields odd
nan_is = refl

-- above an infinity's, the sign aside
pub nan_of : (n : ℕ) → 2139095040 < n % 2147483648 → of_bits binary32 n ≡ nan
nan_of n h = is_nan_lem (of_bits binary32 n) (sym (nan_bits_is binary32 n) ∙ nan_bits_above binary32 n ∙ lt-ltb 2139095040 (n % 2147483648) h)

pub wide : {z : ℤ} → SFits w16 z → SFits w32 z
wide f = record { sfits = omega (arith, f.sfits) }
