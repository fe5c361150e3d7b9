-- The rounding of the root is to nearest: the root lies within half a unit of what is taken, in squares of whole numbers.
use Rattle.std.proofs.Common.{◌≡◌, ℕ, zero, suc, ◌+◌, ◌-◌, ◌*◌, ◌/◌, ◌%◌, ◌^◌, ◌<◌, ◌≤◌, false, sym, refl, ap, subst, le_of_eq, add-zero, le_of_lt, mul-le-mul_right, mul-le-mul, div-mul-le_self, add-one, arith, pow_pos, eqb-true, leb-false, leb-true}
use Prim.Native.Nat.{compare, Ordering}
use native.Mathlib.Nat.{lt-mul-div-succ}
use lib.Dec.{is_le, compare_is_eq}
use lib.Ieee.{Format, prec, size, nearest, units}
use Rattle.num.specs.Root.{square, whole_root, near_root}
use Rattle.num.proofs.RootLaws.{IsRoot, root_is}

-- four times n lies between the squares of twice a unit's half below and above x, in units of p
abbrev pub Near : ℕ → ℕ → ℕ → Type 0
Near n p x = (square ((2 * x - 1) * p) ≤ 4 * n) × (4 * n ≤ square ((2 * x + 1) * p))

module _ (n r p : ℕ) (h : 0 < p) (w : IsRoot n r) where
  q : ℕ
  q = r / p

  mid : ℕ
  unfolding q
  mid = square ((2 * q + 1) * p)

  -- q itself is not too high, and q + 1 not too low
  floor : square ((2 * q - 1) * p) ≤ 4 * n
  unfolding q
  floor =
      let a : (2 * q - 1) * p ≤ 2 * r = omega (arith, mul-le-mul_right {m = 2 * q - 1} {n = 2 * q} p (omega arith), div-mul-le_self r p) in
      omega (arith, mul-le-mul {n₁ = (2 * q - 1) * p} {m₁ = (2 * q - 1) * p} {n₂ = 2 * r} {m₂ = 2 * r} a a, w.0)

  roof : 4 * n ≤ square ((2 * suc q + 1) * p)
  unfolding q
  roof =
      let a : 2 * (r + 1) ≤ (2 * suc q + 1) * p = omega (arith, lt-mul-div-succ r h) in
      omega (arith, mul-le-mul {n₁ = 2 * (r + 1)} {m₁ = 2 * (r + 1)} {n₂ = (2 * suc q + 1) * p} {m₂ = (2 * suc q + 1) * p} a a, w.1)

  low : 4 * n ≤ mid → Near n p q
  unfolding mid
  low t = (floor, t)

  high : mid ≤ 4 * n → Near n p (suc q)
  unfolding mid
  high t =
      let z : 2 * suc q - 1 ≡ 2 * q + 1 = omega arith in
      (subst (λ (x : ℕ). square (x * p) ≤ 4 * n) (sym z) t, roof)

  pub near : Near n p (nearest (r / p) (compare (4 * n) (square ((2 * (r / p) + 1) * p))))
  unfolding q mid
  near = go (compare (4 * n) (square ((2 * (r / p) + 1) * p))) refl
    where
      tie : (d : ℕ) → d < 2 → 4 * n ≡ mid → Near n p (q + d)
      tie zero l e = subst (Near n p) (sym (add-zero q)) (low (le_of_eq e))
      tie (suc zero) l e = subst (Near n p) (sym (add-one q)) (high (le_of_eq (sym e)))
      tie (suc (suc d)) l e = absurd (omega arith)

      go : (o : Ordering) → compare (4 * n) (square ((2 * (r / p) + 1) * p)) ≡ o → Near n p (nearest (r / p) o)
      go Ordering.lt e = low (leb-true (4 * n) mid (ap is_le e))
      go Ordering.eq e = tie (q % 2) (omega arith) (eqb-true (4 * n) mid (ap compare_is_eq e))
      go Ordering.gt e = high (le_of_lt (leb-false (4 * n) mid (ap is_le e)))

-- what `near_root` takes of the root of n: so many digits are dropped, and this significand is kept, in units of 2 ^ dropped
abbrev pub dropped : Format → ℕ → ℕ
dropped f n = size (whole_root n) - prec f

abbrev pub kept : Format → ℕ → ℕ
kept f n =
    let p = 2 ^ dropped f n in
    let q = whole_root n / p in
    nearest q (compare (4 * n) (square ((2 * q + 1) * p)))

-- the root lies within half a unit of the significand that is kept
pub root_nearest : (f : Format) (n : ℕ) → (near_root f n ≡ units f false (kept f n) (dropped f n)) × Near n (2 ^ dropped f n) (kept f n)
unfolding near_root
root_nearest f n = (refl, near n (whole_root n) (2 ^ dropped f n) (pow_pos (dropped f n)) (root_is n))
