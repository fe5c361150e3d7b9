-- Signed numbers for omega, which reads no ℤ: z is `up z` less `dn z`, two numbers of ℕ of which one is 0. Each operation and
-- each test is a linear fact of those, which goes into omega's list; `fits` and `same` turn omega's answer back.
use Prim.Native.Nat.{ℕ, zero, suc, ◌+◌, ◌-◌, ◌*◌, ◌/◌, ◌^◌, ◌<◌, ◌≤◌}
use mathlib.Core.Path.{◌≡◌, refl, sym, ap, ◌∙◌}
use mathlib.Core.Bool.{Bool, true, false, cond, true≢false}
use native.Mathlib.Omega.{arith}
use lib.Dec.{T, ltb, eqb}
use lib.IntN.{ℤ, pos, negsuc, neg_ℤ, nat_abs, sub_ℕ, ◌+ℤ◌, ◌-ℤ◌, ◌*ℤ◌, +ℤ_idl}
use native.Mathlib.Nat.{zero-div}
use lib.Signed.{mag, lt_z, le_z, non_neg, quot_z}
use mir.Syntax.{Width, w32, w64}
use mir.Val.{Fits, SFits, bits, hbits, to_z, of_z}
use mir.Facts.{to_z-of_z, to_z_pos, sfits_widen}
use mir.ValLaws.{pow-bits}
use borrow.Author.Tests.{ltb-true, ltb-false, leb-true, leb-false, eqb-true, eqb-false, lt-ltb, le-ltb, le-leb, lt-leb, eq-eqb, ne_eqb}

abbrev pub up : ℤ → ℕ
up (pos n) = n
up (negsuc n) = 0

abbrev pub dn : ℤ → ℕ
dn (pos n) = 0
dn (negsuc n) = suc n

-- ---- the operations

sub_parts : (a b : ℕ) → up (sub_ℕ a b) + b ≡ dn (sub_ℕ a b) + a
sub_parts a b = go (ltb a b) refl
  where
    go : (t : Bool) → ltb a b ≡ t → up (cond t (negsuc (b - suc a)) (pos (a - b))) + b ≡ dn (cond t (negsuc (b - suc a)) (pos (a - b))) + a
    go true e = omega (arith, ltb-true a b e)
    go false e = omega (arith, ltb-false a b e)

pub add : (a b : ℤ) → up (a +ℤ b) + (dn a + dn b) ≡ dn (a +ℤ b) + (up a + up b)
add (pos a) (pos b) = omega arith
add (pos a) (negsuc b) = omega (arith, sub_parts a (suc b))
add (negsuc a) (pos b) = omega (arith, sub_parts b (suc a))
add (negsuc a) (negsuc b) = omega arith

pub neg : (z : ℤ) → (up (neg_ℤ z) ≡ dn z) × (dn (neg_ℤ z) ≡ up z)
neg (pos zero) = (refl, refl)
neg (pos (suc n)) = (refl, refl)
neg (negsuc n) = (refl, refl)

pub sub : (a b : ℤ) → up (a -ℤ b) + (dn a + up b) ≡ dn (a -ℤ b) + (up a + dn b)
sub a b = omega (arith, add a (neg_ℤ b), neg b)

pub mul : (z : ℤ) (k : ℕ) → (up (z *ℤ pos k) ≡ up z * k) × (dn (z *ℤ pos k) ≡ dn z * k)
mul (pos a) k = (refl, omega arith)
mul (negsuc a) k = ((neg (pos (suc a * k))).0 ∙ omega arith, (neg (pos (suc a * k))).1)

pub abs : (z : ℤ) → nat_abs z ≡ up z + dn z
abs (pos a) = omega arith
abs (negsuc a) = omega arith

-- ---- the tests

pub lt-true : (a b : ℤ) → lt_z a b ≡ true → up a + dn b < up b + dn a
lt-true (pos a) (pos b) e = omega (arith, ltb-true a b e)
lt-true (pos a) (negsuc b) e = absurd (true≢false (sym e))
lt-true (negsuc a) (pos b) e = omega arith
lt-true (negsuc a) (negsuc b) e = omega (arith, ltb-true b a e)

pub lt_false : (a b : ℤ) → lt_z a b ≡ false → up b + dn a ≤ up a + dn b
lt_false (pos a) (pos b) e = omega (arith, ltb-false a b e)
lt_false (pos a) (negsuc b) e = omega arith
lt_false (negsuc a) (pos b) e = absurd (true≢false e)
lt_false (negsuc a) (negsuc b) e = omega (arith, ltb-false b a e)

pub le-true : (a b : ℤ) → le_z a b ≡ true → up a + dn b ≤ up b + dn a
le-true (pos a) (pos b) e = omega (arith, leb-true a b e)
le-true (pos a) (negsuc b) e = absurd (true≢false (sym e))
le-true (negsuc a) (pos b) e = omega arith
le-true (negsuc a) (negsuc b) e = omega (arith, leb-true b a e)

pub le_false : (a b : ℤ) → le_z a b ≡ false → up b + dn a < up a + dn b
le_false (pos a) (pos b) e = omega (arith, leb-false a b e)
le_false (pos a) (negsuc b) e = omega arith
le_false (negsuc a) (pos b) e = absurd (true≢false e)
le_false (negsuc a) (negsuc b) e = omega (arith, leb-false b a e)

pub lt_yes : (a b : ℤ) → up a + dn b < up b + dn a → lt_z a b ≡ true
lt_yes (pos a) (pos b) h = lt-ltb a b (omega arith)
lt_yes (pos a) (negsuc b) h = absurd (omega arith)
lt_yes (negsuc a) (pos b) h = refl
lt_yes (negsuc a) (negsuc b) h = lt-ltb b a (omega arith)

pub lt_no : (a b : ℤ) → up b + dn a ≤ up a + dn b → lt_z a b ≡ false
lt_no (pos a) (pos b) h = le-ltb a b (omega arith)
lt_no (pos a) (negsuc b) h = refl
lt_no (negsuc a) (pos b) h = absurd (omega arith)
lt_no (negsuc a) (negsuc b) h = le-ltb b a (omega arith)

pub le_yes : (a b : ℤ) → up a + dn b ≤ up b + dn a → le_z a b ≡ true
le_yes (pos a) (pos b) h = le-leb a b (omega arith)
le_yes (pos a) (negsuc b) h = absurd (omega arith)
le_yes (negsuc a) (pos b) h = refl
le_yes (negsuc a) (negsuc b) h = le-leb b a (omega arith)

pub le_no : (a b : ℤ) → up b + dn a < up a + dn b → le_z a b ≡ false
le_no (pos a) (pos b) h = lt-leb a b (omega arith)
le_no (pos a) (negsuc b) h = refl
le_no (negsuc a) (pos b) h = absurd (omega arith)
le_no (negsuc a) (negsuc b) h = lt-leb b a (omega arith)

-- ---- in and out

-- a range, as two facts for omega
pub range : {w : Width} {z : ℤ} → SFits w z → (up z < 2 ^ hbits w) × (dn z ≤ 2 ^ hbits w)
range {w} {z = pos n} f = (f.sfits, omega arith)
range {w} {z = negsuc n} f = (let h : n < 2 ^ hbits w = f.sfits in omega arith, f.sfits)

-- and back: one omega shows the pair
pub fits : (w : Width) (z : ℤ) → (up z < dn z + 2 ^ hbits w) × (dn z ≤ up z + 2 ^ hbits w) → SFits w z
fits w (pos n) h = record { sfits = omega arith }
fits w (negsuc n) h = record { sfits = omega arith }

pub nonneg : (z : ℤ) → dn z ≤ up z → T (non_neg z)
nonneg (pos n) h = tt
nonneg (negsuc n) h = absurd (omega arith)

pub same : (a b : ℤ) → up a + dn b ≡ up b + dn a → a ≡ b
same (pos a) (pos b) h = ap pos (omega arith)
same (pos a) (negsuc b) h = absurd (omega arith)
same (negsuc a) (pos b) h = absurd (omega arith)
same (negsuc a) (negsuc b) h = ap negsuc (omega arith)

-- by its sign: `rw (as_pos z h)` and `rw (as_neg z h)` let a definition by cases on z compute
pub as_pos : (z : ℤ) → dn z ≤ up z → z ≡ pos (nat_abs z)
as_pos (pos n) h = refl
as_pos (negsuc n) h = absurd (omega arith)

pub as_neg : (z : ℤ) → up z < dn z → z ≡ negsuc (dn z - 1)
as_neg (pos n) h = absurd (omega arith)
as_neg (negsuc n) h = ap negsuc (omega arith)

-- from a bound alone, as a callee's `.ok`, a struct's `.struct_told` and a variant's `.known-told` have it
pub sf : (w : Width) (z : ℤ) → mag z < 2 ^ hbits w → SFits w z
sf w z h = record { sfits = h }

-- a signed result of a call `f`: `got w64 c.f.ok`
pub got : (w : Width) {z : ℤ} → mag z < 2 ^ hbits w → to_z w (of_z w z) ≡ z
got w h = to_z-of_z {w = w} (record { sfits = h })

-- a local is read back from its bits as `to_z w (of_z w z)`; an i32 that is cast to i64, by both widths
pub wide : {z : ℤ} → SFits w32 z → to_z w64 (of_z w64 (to_z w32 (of_z w32 z))) ≡ z
wide f = ap (λ x. to_z w64 (of_z w64 x)) (to_z-of_z f) ∙ to_z-of_z (sfits_widen {w = w32} {w' = w64} tt f)

pub widens : {z : ℤ} → SFits w32 z → SFits w64 (to_z w32 (of_z w32 z))
widens f = rw (to_z-of_z f) (sfits_widen {w = w32} {w' = w64} tt f)

-- toward zero; at a literal k omega reads the divisions
pub quot : (z : ℤ) (k : ℕ) → (up (quot_z z (pos k)) ≡ up z / k) × (dn (quot_z z (pos k)) ≡ dn z / k)
quot (pos a) k = (refl, sym (zero-div k))
quot (negsuc a) k = ((neg (pos (suc a / k))).0 ∙ sym (zero-div k), (neg (pos (suc a / k))).1)

-- the code's -z is 0 - z
pub zero_sub : (z : ℤ) → pos 0 -ℤ z ≡ neg_ℤ z
zero_sub z = +ℤ_idl (neg_ℤ z)

-- -1 - z, the complement of the bits
pub flip_neg : (n : ℕ) → negsuc 0 -ℤ negsuc n ≡ pos n
flip_neg n = same (negsuc 0 -ℤ negsuc n) (pos n) (omega (arith, sub (negsuc 0) (negsuc n)))

pub flip_pos : (n : ℕ) → negsuc 0 -ℤ pos n ≡ negsuc n
flip_pos n = same (negsuc 0 -ℤ pos n) (negsuc n) (omega (arith, sub (negsuc 0) (pos n)))

-- bits from the upper half, read as signed: -1 - (2 ^ bits w - 1 - x)
module _ (w : Width) (x : ℕ) (f : Fits w x) (h : 2 ^ hbits w ≤ x) where
  high_is : negsuc 0 -ℤ to_z w ((2 ^ bits w - 1) - x) ≡ negsuc ((2 ^ bits w - 1) - x)
  high_is = rw (to_z_pos w {n = (2 ^ bits w - 1) - x} (omega (arith, pow-bits w, f.fits))) (flip_pos ((2 ^ bits w - 1) - x))

  pub high_fits : SFits w (negsuc 0 -ℤ to_z w ((2 ^ bits w - 1) - x))
  high_fits = rw high_is (record { sfits = omega (arith, pow-bits w, f.fits) })

  pub high : to_z w (of_z w (negsuc 0 -ℤ to_z w ((2 ^ bits w - 1) - x))) ≡ to_z w x
  high = to_z-of_z high_fits ∙ high_is ∙ rw (le-ltb x (2 ^ hbits w) h) (ap negsuc (omega arith))

-- ---- equality

abbrev pub eq_z : ℤ → ℤ → Bool
eq_z (pos a) (pos b) = eqb a b
eq_z (pos a) (negsuc b) = false
eq_z (negsuc a) (pos b) = false
eq_z (negsuc a) (negsuc b) = eqb a b

-- the code compares the bits
pub eq_bits : (w : Width) (a b : ℤ) → mag a < 2 ^ hbits w → mag b < 2 ^ hbits w → eqb (of_z w a) (of_z w b) ≡ eq_z a b
eq_bits w (pos a) (pos b) f g = refl
eq_bits w (pos a) (negsuc b) f g = ne_eqb a (2 ^ bits w - suc b) (λ e. omega (arith, pow-bits w))
eq_bits w (negsuc a) (pos b) f g = ne_eqb (2 ^ bits w - suc a) b (λ e. omega (arith, pow-bits w))
eq_bits w (negsuc a) (negsuc b) f g = go (eqb a b) refl
  where
    go : (t : Bool) → eqb a b ≡ t → eqb (2 ^ bits w - suc a) (2 ^ bits w - suc b) ≡ t
    go true q = eq-eqb (2 ^ bits w - suc a) (2 ^ bits w - suc b) (ap (λ n. 2 ^ bits w - suc n) (eqb-true a b q))
    go false q = ne_eqb (2 ^ bits w - suc a) (2 ^ bits w - suc b) (λ e. eqb-false a b q (omega (arith, pow-bits w)))

-- ---- each test by the other

pub lt_not_le : (a b : ℤ) → lt_z a b ≡ true → le_z b a ≡ false
lt_not_le a b e = le_no b a (lt-true a b e)

pub not_lt_le : (a b : ℤ) → lt_z a b ≡ false → le_z b a ≡ true
not_lt_le a b e = le_yes b a (lt_false a b e)

pub le_not_lt : (a b : ℤ) → le_z a b ≡ true → lt_z b a ≡ false
le_not_lt a b e = lt_no b a (le-true a b e)

pub not_le_lt : (a b : ℤ) → le_z a b ≡ false → lt_z b a ≡ true
not_le_lt a b e = lt_yes b a (le_false a b e)

-- a signed local against a bound, as the code reads it back and tests it
module _ {w : Width} {z : ℤ} (f : SFits w z) (b : ℤ) where
  pub below : lt_z (to_z w (of_z w z)) b ≡ true → le_z b z ≡ false
  below e = lt_not_le z b (rw (to_z-of_z f) at e)

  pub not_below : lt_z (to_z w (of_z w z)) b ≡ false → le_z b z ≡ true
  not_below e = not_lt_le z b (rw (to_z-of_z f) at e)

  pub above : lt_z b (to_z w (of_z w z)) ≡ true → le_z z b ≡ false
  above e = lt_not_le b z (rw (to_z-of_z f) at e)

  pub not_above : lt_z b (to_z w (of_z w z)) ≡ false → le_z z b ≡ true
  not_above e = not_lt_le b z (rw (to_z-of_z f) at e)
