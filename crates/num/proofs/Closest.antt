-- A whole number without its low binary digits, rounded to nearest, ties to even: `closest` of `lib.Ieee.Nearest` by a power of two.
-- One digit more than is kept tells the halves apart, and what lies below it a tie.
use Rattle.std.proofs.Common.{◌≡◌, ℕ, zero, suc, ◌+◌, ◌*◌, ◌/◌, ◌%◌, ◌^◌, ◌<◌, ◌≤◌, sym, ap, ◌∙◌, ap₂, mod-lt, mod-eq_of_lt, pow-suc, add-one, arith, pow_pos, shr-shr}
use Prim.Native.Nat.compare
use Prim.Native.Nat.{Ordering}
use Prim.Native.Nat.{compare}
use native.Mathlib.Nat.{div-eq_of_lt}
use lib.Pow.{mod-pow-add}
use lib.Ieee.{nearest}
use lib.Ieee.Fits.{nearest-le}
use lib.Ieee.Nearest.{closest, nearest-ge}

pub compare-lt : (a b : ℕ) → a < b → compare a b ≡ Ordering.lt
compare-lt zero zero h = absurd (omega arith)
compare-lt zero (suc b) h = compare.zero-suc b
compare-lt (suc a) zero h = absurd (omega arith)
compare-lt (suc a) (suc b) h = compare.suc-suc a b ∙ compare-lt a b (omega arith)

pub compare_gt : (a b : ℕ) → b < a → compare a b ≡ Ordering.gt
compare_gt zero zero h = absurd (omega arith)
compare_gt zero (suc b) h = absurd (omega arith)
compare_gt (suc a) zero h = compare.suc-zero a
compare_gt (suc a) (suc b) h = compare.suc-suc a b ∙ compare_gt a b (omega arith)

pub compare_same : (a b : ℕ) → a ≡ b → compare a b ≡ Ordering.eq
compare_same zero zero h = compare.zero-zero
compare_same zero (suc b) h = absurd (omega arith)
compare_same (suc a) zero h = absurd (omega arith)
compare_same (suc a) (suc b) h = compare.suc-suc a b ∙ compare_same a b (omega arith)

-- ---- by the next digit, m / 2 ^ c % 2, of those that are dropped

module _ (m c cut : ℕ) (next : cut ≡ suc c) where
  unit : 2 ^ cut ≡ 2 ^ c * 2
  unit = ap (λ (k : ℕ). 2 ^ k) next ∙ pow-suc 2 c

  whole : m / 2 ^ cut ≡ m / 2 ^ c / 2
  whole = ap (λ (k : ℕ). m / 2 ^ k) (omega (arith, next)) ∙ sym (shr-shr m c 1)

  rest : m % 2 ^ cut ≡ m / 2 ^ c % 2 * 2 ^ c + m % 2 ^ c
  rest = ap (λ (k : ℕ). m % 2 ^ k) (omega (arith, next)) ∙ mod-pow-add m 1 c

  pub closest_below : m / 2 ^ c % 2 ≡ 0 → m / 2 ^ c / 2 ≡ closest m (2 ^ cut)
  closest_below h =
      sym (ap₂ nearest whole (compare-lt (m % 2 ^ cut * 2) (2 ^ cut) (omega (arith, unit, rw h at rest, mod-lt m (pow_pos c)))))

  pub closest_above : m / 2 ^ c % 2 ≡ 1 → 0 < m % 2 ^ c → m / 2 ^ c / 2 + 1 ≡ closest m (2 ^ cut)
  closest_above h l = add-one (m / 2 ^ c / 2) ∙ sym (ap₂ nearest whole (compare_gt (m % 2 ^ cut * 2) (2 ^ cut) (omega (arith, unit, rw h at rest))))

  pub closest_tie : m / 2 ^ c % 2 ≡ 1 → m % 2 ^ c ≡ 0 → m / 2 ^ c / 2 + m / 2 ^ c / 2 % 2 ≡ closest m (2 ^ cut)
  closest_tie h l = sym (ap₂ nearest whole (compare_same (m % 2 ^ cut * 2) (2 ^ cut) (omega (arith, unit, rw h at rest))))

-- ---- how large it is

pub closest_none : (m b : ℕ) → m * 2 < b → closest m b ≡ 0
closest_none m b h =
    let l : m < b = omega arith in
    ap₂ nearest (div-eq_of_lt l) (ap (λ (x : ℕ). compare (x * 2) b) (mod-eq_of_lt l) ∙ compare-lt (m * 2) b h)

pub closest_ge : (m b q : ℕ) → q ≤ m / b → q ≤ closest m b
closest_ge m b q h = omega (arith, nearest-ge (m / b) (compare (m % b * 2) b))

pub closest-le : (m b q : ℕ) → m / b < q → closest m b ≤ q
closest-le m b q h = omega (arith, nearest-le (m / b) (compare (m % b * 2) b))
