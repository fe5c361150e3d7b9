-- The steps of the arc tangent: the square of a ratio is a ratio, the series gives the value, and that is at most 45 degrees.
use Rattle.std.proofs.Common.{◌≡◌, ℕ, ◌*◌, ◌/◌, ◌^◌, ◌≤◌, min, ap, mul-le-mul, arith}
use native.Mathlib.Nat.{min-le_right}
use Rattle.angle.specs.Bearing.{coefficients, series, arc}

pub arc_most : (q : ℕ) → arc q ≤ 193273528320
unfolding arc
arc_most q = min-le_right _ _

-- the square of a ratio, in 2 ^ -62, and in 2 ^ -31
pub square_most : (q : ℕ) → q ≤ 2147483648 → q * q ≤ 4611686018427387904
square_most q h = mul-le-mul {n₁ = q} {m₁ = q} {n₂ = 2147483648} {m₂ = 2147483648} h h

pub square_ratio : (q : ℕ) → q ≤ 2147483648 → q * q / 2147483648 ≤ 2147483648
square_ratio q h = omega (arith, square_most q h)

pub arc_is : (q p : ℕ) → p ≡ series (q * q / 2 ^ 31) coefficients → min (q * p / 33554432) 193273528320 ≡ arc q
unfolding arc
arc_is q p sum = ap (λ (x : ℕ). min (q * x / 2 ^ 25) (45 * 2 ^ 32)) sum
