-- The angle of a vector whose parts are not negative, `quarter`: at most 45 degrees where the vector reaches no further east than north, between 45 and 90 where it
-- reaches no further north than east, and 90 where it has no part to the north. The arc tangent is cut at 45 degrees, and at the ratio 1 it is exactly 45,
-- as the coefficients add up to that. So nothing here rests on how near the series comes to the arc tangent.
use Rattle.std.proofs.Common.{◌≡◌, ℕ, ◌-◌, ◌*◌, ◌^◌, ◌<◌, ◌≤◌, Bool, true, false, cond, leb, refl, le_antisymm, arith, le-leb, leb-true}
use native.Mathlib.Nat.{zero-div, mul-div_cancel_left}
use borrow.Author.Tests.{lt-leb}
use Rattle.angle.specs.Bearing.{degree, series, arc, ratio, quarter}
use Rattle.angle.proofs.Arc.{arc_most}

arc_zero : arc 0 ≡ 0
unfolding arc series
arc_zero = refl

arc_one : arc (2 ^ 31) ≡ 45 * degree
unfolding arc series
arc_one = refl

arc_diagonal : (e n : ℕ) → 0 < e → e ≡ n → arc (ratio e n) ≡ 45 * degree
arc_diagonal e n p same = rw (← same, mul-div_cancel_left (2 ^ 31) p) arc_one

pub steep_quarter : (e n : ℕ) → e ≤ n → quarter e n ≤ 45 * degree
unfolding quarter
steep_quarter e n h = rw (le-leb e n h) (arc_most (ratio e n))

pub flat_quarter : (e n : ℕ) → 0 < e → n ≤ e → (45 * degree ≤ quarter e n) × (quarter e n ≤ 90 * degree)
unfolding quarter
flat_quarter e n p h = go (leb e n) refl
  where
    go : (b : Bool) → leb e n ≡ b → let q = cond b (arc (ratio e n)) (90 * degree - arc (ratio n e)) in (45 * degree ≤ q) × (q ≤ 90 * degree)
    go true t = omega (arith, arc_diagonal e n p (le_antisymm (leb-true e n t) h))
    go false t = omega (arith, arc_most (ratio n e))

pub east_quarter : (e n : ℕ) → 0 < e → n ≡ 0 → quarter e n ≡ 90 * degree
unfolding quarter
east_quarter e n p z = rw (z, lt-leb e 0 p, zero-div, arc_zero)
