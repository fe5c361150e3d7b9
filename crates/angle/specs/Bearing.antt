-- The bearing of a vector, as docs/ANGLES.md states its steps: document 01, `geo::bearing`, degrees clockwise from north.
-- It is worked out in whole numbers, from the vector's magnitudes to an angle in 2 ^ -32 degree, and rounded to a single float once.
use Rattle.std.specs.Prelude.{Result, Ok, Err}
use Rattle.refusal.specs.declared.Refusal.{Refusal}
use Rattle.std.specs.Prelude.{ℕ, ◌-◌, ◌*◌, ◌/◌, ◌^◌, min, false, cond, ◌&&◌, List, [], ◌∷◌, pos, nat_le, Float}
use Rattle.std.specs.Float.{nan, inf, fin, binary32}
use Rattle.std.specs.Float.Ieee.{up, down, lt, eq, round, of_int}
use Rattle.num.specs.Order.{is_finite, is_sign_negative}

abbrev pub zero : Float
zero = fin false 0 (pos 0)

-- ---- the arc tangent of a ratio

-- one degree
abbrev pub degree : ℕ
degree = 2 ^ 32

-- the arc tangent of x in degrees is about x (c0 - c1 x^2 + c2 x^4 - ..): c0, c1, .. in 2 ^ -26 degree. Their sum with these signs is exactly 45 degrees.
abbrev pub coefficients : List ℕ
coefficients =
    3845054597 ∷ 1281678797 ∷ 768869740 ∷ 547776545 ∷ 418090437 ∷ 315340625 ∷ 210785525 ∷ 108764466 ∷ 36368934 ∷ 5709920 ∷ []

-- c0 - s (c1 - s (c2 - ..)), s in 2 ^ -31, each product cut
unfoldable pub series : ℕ → List ℕ → ℕ
series s [] = 0
series s (c ∷ []) = c
series s (c ∷ d ∷ cs) = c - s * series s (d ∷ cs) / 2 ^ 31

-- the arc tangent of q / 2 ^ 31, for q up to 2 ^ 31: at most 45 degrees
unfoldable pub arc : ℕ → ℕ
arc q = min (q * series (q * q / 2 ^ 31) coefficients / 2 ^ 25) (45 * degree)

-- ---- a vector

-- a finite value's magnitude counted in the smallest single float, 2 ^ -149: a whole number for every single float
abbrev pub magnitude : Float → ℕ
magnitude nan = 0
magnitude (inf s) = 0
magnitude (fin s m e) = m * up e * 2 ^ 149 / down e

-- the smaller magnitude by the larger, in 2 ^ -31, cut
abbrev pub ratio : ℕ → ℕ → ℕ
ratio lo hi = lo * 2 ^ 31 / hi

-- the angle from north to east of a vector whose parts are not negative: 0 to 90 degrees
unfoldable pub quarter : ℕ → ℕ → ℕ
quarter east north = cond (nat_le east north) (arc (ratio east north)) (90 * degree - arc (ratio north east))

-- a vector to the south is mirrored in the east-west line, and one to the west in the north-south line
abbrev pub southern : Float → ℕ → ℕ
southern north a = cond (lt north zero) (180 * degree - a) a

abbrev pub western : Float → ℕ → ℕ
western east a = cond (lt east zero) (360 * degree - a) a

abbrev pub angle : Float → Float → ℕ
angle east north = western east (southern north (quarter (magnitude east) (magnitude north)))

-- A vector with no part to the east follows the Rust's cases, those of the zero vector among them: north is east's own zero, and south, also -0, is 180.
unfoldable pub degrees : Float → Float → Float
degrees east north = cond (eq east zero) (cond (is_sign_negative north) (of_int binary32 (pos 180)) east) (round binary32 false (angle east north) degree)

-- a figure that is not finite is refused with 8
unfoldable pub bearing : Float → Float → Result Float Refusal
bearing east north = cond (is_finite east && is_finite north) (Ok (degrees east north)) (Err Refusal.OutOfRange)
