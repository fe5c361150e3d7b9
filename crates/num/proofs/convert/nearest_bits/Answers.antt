-- `num::convert::nearest_bits` meets its contract: n without its leading zeros loses no digit, and by how many digits n * 2 ^ i has one of the four ranges of `Nearest`.
use Rattle.std.proofs.Common.{◌≡◌, ℕ, ◌+◌, ◌-◌, ◌*◌, ◌%◌, ◌^◌, ◌<◌, ◌≤◌, ap, ◌∙◌, mod-eq_of_lt, arith, rules}
use lib.Count.{count_leading_zeros}
use lib.Ieee.{binary32, of_bits}
use lib.Ieee.Nearest.{closest}
use Rattle.num.specs.Convert.{nearest_to}
use Rattle.num.proofs.Nearest.{leading_up, kept_normal, bits_normal, bits_above, kept_small, bits_small, bits_none}
use Rattle.num.proofs.convert.nearest_bits.Goals as goal

abbrev zeros : ℕ → ℕ
zeros n = count_leading_zeros 64 n

abbrev top : ℕ → ℕ → ℕ
top n i = 64 - zeros n + i

module _ (n i : ℕ) (h : 0 < n) (l : n < 2 ^ 64) where
  up : (zeros n < 64) × ((2 ^ 63 ≤ n * 2 ^ zeros n) × (n * 2 ^ zeros n < 2 ^ 64))
  up = leading_up n h l

  exponent : zeros n + top n i ≡ 64 + i
  exponent = omega (arith, up.0)

  above : 1203 ≤ top n i → of_bits binary32 2139095040 ≡ nearest_to n i
  above = bits_above n i (zeros n) (top n i) exponent up.1.0 up.1.1

  none : top n i < 925 → of_bits binary32 0 ≡ nearest_to n i
  none = bits_none n i (zeros n) (top n i) exponent up.1.0 up.1.1

  -- what is kept, r, of the digits that the shift leaves
  same : (r c : ℕ) → r ≡ closest (n * 2 ^ zeros n % 2 ^ 64) c → r ≡ closest (n * 2 ^ zeros n) c
  same r c e = e ∙ ap (λ (m : ℕ). closest m c) (mod-eq_of_lt up.1.1)

  normal_le : (r : ℕ) → r ≡ closest (n * 2 ^ zeros n % 2 ^ 64) (2 ^ 40) → r ≤ 16777216
  normal_le r e = omega (arith, same r (2 ^ 40) e, (kept_normal n i (zeros n) (top n i) exponent up.1.0 up.1.1).1)

  normal : (r : ℕ) → 949 ≤ top n i → top n i < 1203 → r ≡ closest (n * 2 ^ zeros n % 2 ^ 64) (2 ^ 40) → of_bits binary32 ((top n i - 949) * 8388608 + r) ≡ nearest_to n i
  normal r a b e =
      ap (λ (x : ℕ). of_bits binary32 ((top n i - 949) * 8388608 + x)) (same r (2 ^ 40) e) ∙ bits_normal n i (zeros n) (top n i) exponent up.1.0 up.1.1 a b

  small_le : (r : ℕ) → top n i < 949 → r ≡ closest (n * 2 ^ zeros n % 2 ^ 64) (2 ^ (989 - top n i)) → r ≤ 8388608
  small_le r a e = omega (arith, same r (2 ^ (989 - top n i)) e, kept_small n i (zeros n) (top n i) exponent up.1.0 up.1.1 a)

  small : (r : ℕ) → top n i < 949 → r ≡ closest (n * 2 ^ zeros n % 2 ^ 64) (2 ^ (989 - top n i)) → of_bits binary32 r ≡ nearest_to n i
  small r a e = ap (of_bits binary32) (same r (2 ^ (989 - top n i)) e) ∙ bits_small n i (zeros n) (top n i) exponent up.1.0 up.1.1 a

pub returns-then-top-ge1203 : goal.returns-then-top-ge1203
returns-then-top-ge1203 c = (above c.args.n c.args.i c.requires.0 c.ranges.n.fits c.if-top-ge1203.true, search rules)

pub returns-then-top-ge949 : goal.returns-then-top-ge949
returns-then-top-ge949 c = (
  normal c.args.n c.args.i c.requires.0 c.ranges.n.fits c.kept.result c.if-top-ge949.true c.if-top-ge1203.false c.kept.ensures,
  omega (arith, normal_le c.args.n c.args.i c.requires.0 c.ranges.n.fits c.kept.result c.kept.ensures),
)

pub returns-then-top-lt925 : goal.returns-then-top-lt925
returns-then-top-lt925 c = (none c.args.n c.args.i c.requires.0 c.ranges.n.fits c.if-top-lt925.true, search rules)

pub overflow_cast-result-2 : goal.overflow_cast-result-2
overflow_cast-result-2 c = omega (arith, small_le c.args.n c.args.i c.requires.0 c.ranges.n.fits c.kept-2.result c.if-top-ge949.false c.kept-2.ensures)

pub returns : goal.returns
returns c = (
  small c.args.n c.args.i c.requires.0 c.ranges.n.fits c.kept-2.result c.if-top-ge949.false c.kept-2.ensures,
  omega (arith, small_le c.args.n c.args.i c.requires.0 c.ranges.n.fits c.kept-2.result c.if-top-ge949.false c.kept-2.ensures),
)
