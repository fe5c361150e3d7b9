-- The bearing of a vector that is not zero lies in every closed eighth of the circle that holds the vector: `in_eighth`.
-- An eighth's place, its two sides of the compass and its half of their quarter, tells how `angle` mirrors the quarter's angle, and so between which two whole degrees
-- the angle lies. Rounding keeps the order, and the marks are those degrees rounded. A vector due north or south has no angle worked out: its bearing is a zero or 180.
use Rattle.std.proofs.Common.{◌≡◌, ℕ, ◌+◌, ◌-◌, ◌*◌, ◌<◌, ◌≤◌, Bool, true, false, cond, not, ◌&&◌, ◌||◌, T, ◌↔◌, pos, refl, zero-le, arith, T_not}
use lib.Ieee.{Float, fin, binary32, fits, eq, le, round, of_int}
use lib.Ieee.Fits.{and_i, and_l, and_r}
use lib.Ieee.Order.{round_mono}
use Rattle.num.specs.Order.{is_finite, is_sign_negative}
use Rattle.angle.specs.Bearing.{zero, degree, magnitude, quarter, angle, degrees}
use Rattle.angle.specs.Eighths.{Eighth, nne, ene, ese, sse, ssw, wsw, wnw, nnw, begin, holds, mark, wraps, within, is_zero}
use Rattle.angle.proofs.Quarter.{steep_quarter, flat_quarter, east_quarter}
use Rattle.angle.proofs.Parts.{Single, single_zero, single_neg, ahead, behind, parts, le_parts, zero_is, only_zeros, mirrored}

-- ---- where an eighth lies, and its vectors

-- to the west or the east, to the south or the north, nearer to the east-west line or to the north-south line
record Place : Type 0 where
  west : Bool
  south : Bool
  flat : Bool

abbrev place : Eighth → Place
place nne = record { west = false; south = false; flat = false }
place ene = record { west = false; south = false; flat = true }
place ese = record { west = false; south = true; flat = true }
place sse = record { west = false; south = true; flat = false }
place ssw = record { west = true; south = true; flat = false }
place wsw = record { west = true; south = true; flat = true }
place wnw = record { west = true; south = false; flat = true }
place nnw = record { west = true; south = false; flat = false }

-- a vector there: it has no part to the sides opposite, and the part along the nearer line is no smaller than the other
record Lies (p : Place) (east north : Float) : Type 0 where
  east_side : cond p.west (ahead east) (behind east) ≡ 0
  north_side : cond p.south (ahead north) (behind north) ≡ 0
  slope : cond p.flat (magnitude north) (magnitude east) ≤ cond p.flat (magnitude east) (magnitude north)

ordered : {x y x' y' : Float} → Single x → Single y → Single x' → Single y' → T (le x y && le x' y')
    → (ahead x + behind y ≤ ahead y + behind x) × (ahead x' + behind y' ≤ ahead y' + behind x')
ordered {x} {y} {x'} {y'} h k h' k' t = (le_parts h k (and_l (le x y) (le x' y') t), le_parts h' k' (and_r (le x y) (le x' y') t))

lies : (k : Eighth) {east north : Float} → Single east → Single north → T (holds k east north) → Lies (place k) east north
lies nne e n h = omega (arith, parts e, parts n, ordered single_zero e e n h)
lies ene e n h = omega (arith, parts e, parts n, ordered single_zero n n e h)
lies ese e n h = omega (arith, parts e, parts n, ordered n single_zero (single_neg n) e h)
lies sse e n h = omega (arith, parts e, parts n, ordered single_zero e e (single_neg n) h)
lies ssw e n h = omega (arith, parts e, parts n, ordered e single_zero (single_neg e) (single_neg n) h)
lies wsw e n h = omega (arith, parts e, parts n, ordered n single_zero (single_neg n) (single_neg e) h)
lies wnw e n h = omega (arith, parts e, parts n, ordered single_zero n n (single_neg e) h)
lies nnw e n h = omega (arith, parts e, parts n, ordered e single_zero (single_neg e) n h)

-- ---- a vector with a part to the east or west: its angle, and the angle rounded

-- q in the flat half of the quarter, 45 to 90 degrees, or in the steep one, 0 to 45
abbrev InHalf : Bool → ℕ → Type 0
InHalf b q = (cond b 45 0 * degree ≤ q) × (q ≤ (cond b 45 0 + 45) * degree)

in_half : (b : Bool) (e n : ℕ) → 0 < e → cond b n e ≤ cond b e n → InHalf b (quarter e n)
in_half true e n p h = flat_quarter e n p h
in_half false e n p h = (zero-le, steep_quarter e n h)

-- the quarter's angle mirrored to the place's sides
abbrev turned : Place → ℕ → ℕ
turned p q = let a = cond p.south (180 * degree - q) q in cond p.west (360 * degree - a) a

angle-turned : (p : Place) {east north : Float} → Single east → Single north → Lies p east north → 0 < magnitude east
    → angle east north ≡ turned p (quarter (magnitude east) (magnitude north))
angle-turned p {east} {north} e n l some_east =
    let q = quarter (magnitude east) (magnitude north) in
    rw (mirrored n p.south l.north_side (180 * degree) q (λ z. omega (arith, east_quarter (magnitude east) (magnitude north) some_east z)))
    (mirrored e p.west l.east_side (360 * degree) (cond p.south (180 * degree - q) q) (λ z. absurd (omega arith)))

-- an angle of the eighth, both ends in it
abbrev InArc : Eighth → ℕ → Type 0
InArc k a = (begin k * degree ≤ a) × (a ≤ (begin k + 45) * degree)

in_arc : (k : Eighth) (q : ℕ) → InHalf (place k).flat q → InArc k (turned (place k) q)
in_arc nne q h = omega arith
in_arc ene q h = omega arith
in_arc ese q h = omega arith
in_arc sse q h = omega arith
in_arc ssw q h = omega arith
in_arc wsw q h = omega arith
in_arc wnw q h = omega arith
in_arc nnw q h = omega arith

or_l : (a b : Bool) → T a → T (a || b)
or_l true b t = tt
or_l false b t = elim t [ ]

rounded_within : (k : Eighth) (a : ℕ) → InArc k a → T (within k (round binary32 false a degree))
unfolding of_int
rounded_within k a h =
    let d = round binary32 false a degree in
    or_l (le (mark (begin k)) d && le d (mark (begin k + 45))) (wraps k d)
    (and_i (le (mark (begin k)) d) (le d (mark (begin k + 45)))
    (round_mono binary32 (begin k) 1 a degree (omega arith) (omega arith) (omega arith))
    (round_mono binary32 a degree (begin k + 45) 1 (omega arith) (omega arith) (omega arith)))

-- ---- a vector due north or south

-- of a value that is not zero the sign is the side
sign_is : (x : Float) (s : Bool) → cond s (ahead x) (behind x) ≡ 0 → 0 < magnitude x → is_sign_negative x ≡ s
sign_is x s side some = go (is_sign_negative x) s side
  where
    go : (b s : Bool) → cond s (cond b 0 (magnitude x)) (cond b (magnitude x) 0) ≡ 0 → b ≡ s
    go true true z = refl
    go false false z = refl
    go true false z = absurd (omega arith)
    go false true z = absurd (omega arith)

-- it lies in no flat place; north is a zero of either sign, and south 180
due_within : (k : Eighth) (s : Bool) (e n : ℕ) → e < n → cond (place k).flat n e ≤ cond (place k).flat e n
    → T (within k (cond (place k).south (mark 180) (fin s 0 (pos 0))))
unfolding of_int round le
due_within nne true e n p h = tt
due_within nne false e n p h = tt
due_within ene s e n p h = absurd (omega arith)
due_within ese s e n p h = absurd (omega arith)
due_within sse s e n p h = tt
due_within ssw s e n p h = tt
due_within wsw s e n p h = absurd (omega arith)
due_within wnw s e n p h = absurd (omega arith)
due_within nnw true e n p h = tt
due_within nnw false e n p h = tt

-- ---- the theorem

pub in_eighth : (k : Eighth) (east north : Float) → T (fits binary32 east) → T (fits binary32 north) → T (is_finite east) → T (is_finite north)
    → T (not (is_zero east north)) → T (holds k east north) → T (within k (degrees east north))
unfolding degrees
in_eighth k east north east_fits north_fits east_finite north_finite nonzero h = go (eq east zero) (zero_is e) (only_zeros e) nonzero
  where
    e : Single east
    e = record { fitting = east_fits; finite = east_finite }

    n : Single north
    n = record { fitting = north_fits; finite = north_finite }

    l : Lies (place k) east north
    l = lies k e n h

    go : (b : Bool) → T b ↔ (magnitude east ≡ 0) → (T b → east ≡ fin (is_sign_negative east) 0 (pos 0)) → T (not (b && eq north zero))
        → T (within k (cond b (cond (is_sign_negative north) (mark 180) east) (round binary32 false (angle east north) degree)))
    go true i z nonzero =
        let some_north : ¬ (magnitude north ≡ 0) = λ m. T_not (eq north zero) nonzero ((zero_is n).1 m) in
        rw (sign_is north (place k).south l.north_side (omega arith), z tt)
        (due_within k (is_sign_negative east) (magnitude east) (magnitude north) (omega (arith, i.0 tt)) l.slope)
    go false i z nonzero =
        let no_zero : ¬ (magnitude east ≡ 0) = i.1 in
        let some_east : 0 < magnitude east = omega arith in
        rounded_within k (angle east north)
        (rw (angle-turned (place k) e n l some_east)
        (in_arc k (quarter (magnitude east) (magnitude north)) (in_half (place k).flat (magnitude east) (magnitude north) some_east l.slope)))
