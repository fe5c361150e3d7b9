-- A point projected onto a segment no further off than some distance has a fraction within 0 and 1 (`fraction_within`). The idea: a fraction is
-- held to 0 to 1 unless it is not-a-number; then the distance is not-a-number too, and that is at most nothing. All of it is about the
-- definitions of `num` and `geo` alone.
use Prim.Native.Nat.{ℕ, ◌+◌, ◌*◌, ◌≤◌}
use mathlib.Core.Path.{◌≡◌, refl, sym, ap, ◌∙◌}
use mathlib.Core.Bool.{Bool, true, false, ◌&&◌, ◌||◌, cond, true≢false}
use mathlib.Core.Logic.{◌⊎◌, inl, inr, ⊎_elim}
use native.Mathlib.Omega.{arith}
use lib.Dec.{ltb, eqb}
use borrow.Author.Tests.{ltb-false, eq-eqb}
use lib.Ieee.{Float, nan, inf, fin, binary32, up, down, is_nan, below, level, lt, eq, le, add, sub, mul, div, neg, of_int}
use Rattle.num.specs.Order.{clamp}
use Rattle.num.specs.Root.{square_root}
use Rattle.num.proofs.PartLaws.{IsPart}
use Rattle.geo.specs.Flat.{whole, length_of, fraction_of, projected_at, project_of}
use Rattle.geo.specs.declared.Metres.{Metres}

-- ---- what isn't less is at least as much

-- the flag says that the two are the same
less_or_same : (x y : ℕ) (same : Bool) → x ≤ y → (x ≡ y → same ≡ true) → (ltb x y || (same && true)) ≡ true
less_or_same x y same h is = by (ltb x y) refl
  where
    by : (t : Bool) → ltb x y ≡ t → (t || (same && true)) ≡ true
    by true e = refl
    by false e = rw (is (omega (arith, ltb-false x y e)))

both_zero : (a b : ℕ) → a + b ≤ 0 → (eqb a b && eqb a 0) ≡ true
both_zero a b h = rw (eq-eqb a b (omega arith), eq-eqb a 0 (omega arith))

not_below : (s : Bool) (a : ℕ) (t : Bool) (b : ℕ) → below s a t b ≡ false → (below t b s a || level t b s a) ≡ true
not_below false a false b e = less_or_same b a (eqb b a) (ltb-false a b e) (eq-eqb b a)
not_below true a true b e = less_or_same a b (eqb b a) (ltb-false b a e) (λ (q : a ≡ b). eq-eqb b a (sym q))
not_below true a false b e = both_zero b a (omega (arith, ltb-false 0 (a + b) e))
not_below false a true b e = by (ltb 0 (b + a)) refl
  where
    by : (t : Bool) → ltb 0 (b + a) ≡ t → (t || (eqb b a && eqb b 0)) ≡ true
    by true q = refl
    by false q = both_zero b a (ltb-false 0 (b + a) q)

pub not_less : (x y : Float) → is_nan x ≡ false → is_nan y ≡ false → lt x y ≡ false → le y x ≡ true
unfolding is_nan lt eq le
not_less nan y f g e = absurd (true≢false f)
not_less (inf s) nan f g e = absurd (true≢false g)
not_less (inf false) (inf false) f g e = refl
not_less (inf false) (inf true) f g e = refl
not_less (inf true) (inf true) f g e = refl
not_less (inf true) (inf false) f g e = absurd (true≢false e)
not_less (inf false) (fin t n d) f g e = refl
not_less (inf true) (fin t n d) f g e = absurd (true≢false e)
not_less (fin s m e) nan f g q = absurd (true≢false g)
not_less (fin s m e) (inf true) f g q = refl
not_less (fin s m e) (inf false) f g q = absurd (true≢false q)
not_less (fin s m e) (fin t n d) f g q = not_below s (m * up e * down d) t (n * up d * down e) q

-- ---- a fraction, or not-a-number

abbrev pub IsFraction : Float → Type 0
IsFraction t = (le (whole 0) t ≡ true) × (le t (whole 1) ≡ true)

zero_fraction : IsFraction (whole 0)
unfolding of_int le lt eq
zero_fraction = (refl, refl)

one_fraction : IsFraction (whole 1)
unfolding of_int le lt eq
one_fraction = (refl, refl)

whole_numbers : (is_nan (whole 0) ≡ false) × (is_nan (whole 1) ≡ false)
unfolding of_int is_nan
whole_numbers = (refl, refl)

nan_or : (x : Float) → (x ≡ nan) ⊎ (is_nan x ≡ false)
unfolding is_nan
nan_or nan = inl refl
nan_or (inf s) = inr refl
nan_or (fin s m e) = inr refl

clamp_fraction : (x : Float) → is_nan x ≡ false → IsFraction (clamp x (whole 0) (whole 1))
clamp_fraction x f = by (lt x (whole 0)) (lt (whole 1) x) refl refl
  where
    by : (low high : Bool) → lt x (whole 0) ≡ low → lt (whole 1) x ≡ high → IsFraction (cond low (whole 0) (cond high (whole 1) x))
    by true high p q = zero_fraction
    by false true p q = one_fraction
    by false false p q = (not_less x (whole 0) f whole_numbers.0 p, not_less (whole 1) x whole_numbers.1 f q)

clamp-nan : clamp nan (whole 0) (whole 1) ≡ nan
unfolding of_int lt
clamp-nan = refl

clamped : (x : Float) → (clamp x (whole 0) (whole 1) ≡ nan) ⊎ IsFraction (clamp x (whole 0) (whole 1))
clamped x = ⊎_elim (λ (e : x ≡ nan). inl (rw e clamp-nan)) (λ (f : is_nan x ≡ false). inr (clamp_fraction x f)) (nan_or x)

-- ---- not-a-number is passed on to the distance

add-nan : (x : Float) → add binary32 x nan ≡ nan
unfolding add
add-nan nan = refl
add-nan (inf s) = refl
add-nan (fin s m e) = refl

gap_nan : (x y d : Float) → sub binary32 x (add binary32 y (mul binary32 nan d)) ≡ nan
unfolding sub neg mul
gap_nan x y d = rw (add-nan y) (add-nan x)

length_nan : (north : Float) → length_of nan north ≡ nan
unfolding length_of square_root add mul
length_nan north = refl

distance_nan : (p a : Metres) (dx dy t : Float) → t ≡ nan → (projected_at p a dx dy t).distance ≡ nan
distance_nan p a dx dy t e = rw (e, gap_nan p.east a.east dx) (length_nan _)

nan_never : (r : Float) → le nan r ≡ false
unfolding le lt eq
nan_never r = refl

-- ---- a point in reach

either_fraction : (p a : Metres) (dx dy : Float) → (fraction_of p a dx dy ≡ nan) ⊎ IsFraction (fraction_of p a dx dy)
either_fraction p a dx dy = by (lt (whole 0) len2)
  where
    len2 : Float
    len2 = add binary32 (mul binary32 dx dx) (mul binary32 dy dy)

    part : Float
    part = div binary32 (add binary32 (mul binary32 (sub binary32 p.east a.east) dx) (mul binary32 (sub binary32 p.north a.north) dy)) len2

    by : (t : Bool) → (cond t (clamp part (whole 0) (whole 1)) (whole 0) ≡ nan) ⊎ IsFraction (cond t (clamp part (whole 0) (whole 1)) (whole 0))
    by true = clamped part
    by false = inr zero_fraction

-- a projection's fraction, and what a clamp to 0 to 1 leaves, are a part or not-a-number
pub clamp_part : (x : Float) → IsPart (clamp x (whole 0) (whole 1))
clamp_part x = clamped x

pub project_part : (p a b : Metres) → IsPart (project_of p a b).fraction
unfolding project_of
project_part p a b = either_fraction p a (sub binary32 b.east a.east) (sub binary32 b.north a.north)

pub fraction_within : (p a b : Metres) (r : Float) → le (project_of p a b).distance r ≡ true → IsFraction (project_of p a b).fraction
unfolding project_of
fraction_within p a b r near =
    let dx : Float = sub binary32 b.east a.east in
    let dy : Float = sub binary32 b.north a.north in
    ⊎_elim
    (λ (e : fraction_of p a dx dy ≡ nan).
    absurd (true≢false (sym near ∙ ap (λ (d : Float). le d r) (distance_nan p a dx dy (fraction_of p a dx dy) e) ∙ nan_never r)))
    (λ (h : IsFraction (fraction_of p a dx dy)). h)
    (either_fraction p a dx dy)
