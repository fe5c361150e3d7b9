-- Heights in their order, for omega, which reads no ℤ: z is `up z` less `dn z`, two numbers of ℕ of which one is 0. How far one lies above another (`gap`, `gap_is`), and the lowest and the
-- highest of a list (`lowest_each`, `highest_each`).
use Prim.Native.Nat.{ℕ, zero, suc, ◌+◌, ◌<◌, ◌≤◌}
use mathlib.Core.Path.{◌≡◌, refl, sym}
use mathlib.Core.Bool.{Bool, true, false, cond, true≢false}
use mathlib.Core.List.{List, [], ◌∷◌}
use native.Mathlib.Omega.{arith}
use lib.ListN.{length, get_or}
use lib.IntN.{ℤ, pos, negsuc, nat_abs, sub_ℕ, ◌-ℤ◌}
use lib.Signed.{mag, lt_z, le_z}
use borrow.Author.Tests.{ltb-true, ltb-false, leb-true, le-leb, le-ltb}
use Rattle.profile_text.specs.Page.{lesser, greater, lowest_of, highest_of, lowest, highest}
use Rattle.profile_text.proofs.Rounding.{abs_sub, pos_less}

-- ---- the order

abbrev pub up : ℤ → ℕ
up (pos n) = n
up (negsuc n) = 0

abbrev pub dn : ℤ → ℕ
dn (pos n) = 0
dn (negsuc n) = suc n

pub le_parts : (a b : ℤ) → le_z a b ≡ true → up a + dn b ≤ up b + dn a
le_parts (pos a) (pos b) e = omega (arith, leb-true a b e)
le_parts (pos a) (negsuc b) e = absurd (true≢false (sym e))
le_parts (negsuc a) (pos b) e = omega arith
le_parts (negsuc a) (negsuc b) e = omega (arith, leb-true b a e)

parts_le : (a b : ℤ) → up a + dn b ≤ up b + dn a → le_z a b ≡ true
parts_le (pos a) (pos b) h = le-leb a b (omega arith)
parts_le (pos a) (negsuc b) h = absurd (omega arith)
parts_le (negsuc a) (pos b) h = refl
parts_le (negsuc a) (negsuc b) h = le-leb b a (omega arith)

lt_parts : (a b : ℤ) → lt_z a b ≡ true → up a + dn b < up b + dn a
lt_parts (pos a) (pos b) e = omega (arith, ltb-true a b e)
lt_parts (pos a) (negsuc b) e = absurd (true≢false (sym e))
lt_parts (negsuc a) (pos b) e = omega arith
lt_parts (negsuc a) (negsuc b) e = omega (arith, ltb-true b a e)

not_lt_parts : (a b : ℤ) → lt_z a b ≡ false → up b + dn a ≤ up a + dn b
not_lt_parts (pos a) (pos b) e = omega (arith, ltb-false a b e)
not_lt_parts (pos a) (negsuc b) e = omega arith
not_lt_parts (negsuc a) (pos b) e = absurd (true≢false e)
not_lt_parts (negsuc a) (negsuc b) e = omega (arith, ltb-false b a e)

pub le_trans : (a b c : ℤ) → le_z a b ≡ true → le_z b c ≡ true → le_z a c ≡ true
le_trans a b c e f = parts_le a c (omega (arith, le_parts a b e, le_parts b c f))

-- by its sign
pub below : (z : ℤ) → lt_z z (pos 0) ≡ true → z ≡ negsuc (mag z)
below (pos n) e = absurd (omega (arith, ltb-true n 0 e))
below (negsuc n) e = refl

pub not_below : (z : ℤ) → lt_z z (pos 0) ≡ false → z ≡ pos (mag z)
not_below (pos n) e = refl
not_below (negsuc n) e = absurd (true≢false e)

-- ---- how far one lies above another

pub gap : (a b : ℤ) → le_z a b ≡ true → nat_abs (b -ℤ a) + (up a + dn b) ≡ up b + dn a
gap (pos a) (pos b) e = omega (arith, pos_less b a, leb-true a b e)
gap (pos a) (negsuc b) e = absurd (true≢false (sym e))
gap (negsuc a) (pos b) e = omega arith
gap (negsuc a) (negsuc b) e = omega (arith, abs_sub (suc a) (suc b), leb-true b a e)

sub_is : (a b : ℕ) → b ≤ a → sub_ℕ a b ≡ pos (nat_abs (sub_ℕ a b))
sub_is a b h = rw (le-ltb a b h)

pub gap_is : (a b : ℤ) → le_z a b ≡ true → b -ℤ a ≡ pos (nat_abs (b -ℤ a))
gap_is (pos zero) (pos b) e = refl
gap_is (pos (suc a)) (pos b) e = sub_is b (suc a) (leb-true (suc a) b e)
gap_is (pos a) (negsuc b) e = absurd (true≢false (sym e))
gap_is (negsuc a) (pos b) e = refl
gap_is (negsuc a) (negsuc b) e = sub_is (suc a) (suc b) (omega (arith, leb-true b a e))

pub up-dn : (z : ℤ) → mag z < 32768 → (up z < 32768) × (dn z ≤ 32768)
up-dn (pos n) h = (omega arith, omega arith)
up-dn (negsuc n) h = (omega arith, omega arith)

-- ---- the lowest and the highest of a list

lesser_parts : (a b : ℤ) → (le_z (lesser a b) a ≡ true) × (le_z (lesser a b) b ≡ true)
lesser_parts a b = go (lt_z b a) refl
  where
    go : (t : Bool) → lt_z b a ≡ t → (le_z (cond t b a) a ≡ true) × (le_z (cond t b a) b ≡ true)
    go true e = (parts_le b a (omega (arith, lt_parts b a e)), parts_le b b (omega arith))
    go false e = (parts_le a a (omega arith), parts_le a b (omega (arith, not_lt_parts b a e)))

greater_parts : (a b : ℤ) → (le_z a (greater a b) ≡ true) × (le_z b (greater a b) ≡ true)
greater_parts a b = go (lt_z a b) refl
  where
    go : (t : Bool) → lt_z a b ≡ t → (le_z a (cond t b a) ≡ true) × (le_z b (cond t b a) ≡ true)
    go true e = (parts_le a b (omega (arith, lt_parts a b e)), parts_le b b (omega arith))
    go false e = (parts_le a a (omega arith), parts_le b a (omega (arith, not_lt_parts a b e)))

lowest_start : (low : ℤ) (zs : List ℤ) → le_z (lowest_of low zs) low ≡ true
unfolding lowest_of
lowest_start low [] = parts_le low low (omega arith)
lowest_start low (z ∷ zs) = le_trans (lowest_of (lesser low z) zs) (lesser low z) low (lowest_start (lesser low z) zs) (lesser_parts low z).0

highest_start : (high : ℤ) (zs : List ℤ) → le_z high (highest_of high zs) ≡ true
unfolding highest_of
highest_start high [] = parts_le high high (omega arith)
highest_start high (z ∷ zs) = le_trans high (greater high z) (highest_of (greater high z) zs) (greater_parts high z).0 (highest_start (greater high z) zs)

lowest_of_lem : (low : ℤ) (zs : List ℤ) (i : ℕ) → i < length zs → le_z (lowest_of low zs) (get_or zs i (pos 0)) ≡ true
unfolding lowest_of
lowest_of_lem low [] i h = absurd (omega arith)
lowest_of_lem low (z ∷ zs) zero h = le_trans (lowest_of (lesser low z) zs) (lesser low z) z (lowest_start (lesser low z) zs) (lesser_parts low z).1
lowest_of_lem low (z ∷ zs) (suc i) h = lowest_of_lem (lesser low z) zs i (omega arith)

highest_of_lem : (high : ℤ) (zs : List ℤ) (i : ℕ) → i < length zs → le_z (get_or zs i (pos 0)) (highest_of high zs) ≡ true
unfolding highest_of
highest_of_lem high [] i h = absurd (omega arith)
highest_of_lem high (z ∷ zs) zero h = le_trans z (greater high z) (highest_of (greater high z) zs) (greater_parts high z).1 (highest_start (greater high z) zs)
highest_of_lem high (z ∷ zs) (suc i) h = highest_of_lem (greater high z) zs i (omega arith)

pub lowest_each : (zs : List ℤ) (i : ℕ) → i < length zs → le_z (lowest zs) (get_or zs i (pos 0)) ≡ true
unfolding lowest
lowest_each [] i h = absurd (omega arith)
lowest_each (z ∷ zs) zero h = lowest_start z zs
lowest_each (z ∷ zs) (suc i) h = lowest_of_lem z zs i (omega arith)

pub highest_each : (zs : List ℤ) (i : ℕ) → i < length zs → le_z (get_or zs i (pos 0)) (highest zs) ≡ true
unfolding highest
highest_each [] i h = absurd (omega arith)
highest_each (z ∷ zs) zero h = highest_start z zs
highest_each (z ∷ zs) (suc i) h = highest_of_lem z zs i (omega arith)
