-- Whole metres are the nearest, of two as near the one further from zero, and no other number is (`whole_metres_rounded`, `rounded_only`). How the code reaches them,
-- by quotient and remainder of a division by ten (`one_up`, `one_down`, `as_cut`), and that they are small (`whole_metres-mag`).
use Prim.Native.Nat.{ℕ, zero, suc, ◌+◌, ◌-◌, ◌*◌, ◌/◌, ◌%◌, ◌<◌, ◌≤◌}
use mathlib.Core.Path.{◌≡◌, refl, sym, ap, ◌∙◌}
use mathlib.Core.Bool.{Bool, true, false, cond, true≢false}
use native.Mathlib.Numerals.{add-one}
use native.Mathlib.Omega.{arith}
use lib.Dec.{ltb}
use lib.IntN.{ℤ, pos, negsuc, neg_ℤ, nat_abs, sub_ℕ, neg_ℤ-neg_ℤ, ◌+ℤ◌, ◌-ℤ◌, ◌*ℤ◌}
use lib.Signed.{mag, le_z, quot_z, rem_z}
use borrow.Author.Tests.{ltb-true, ltb-false, leb-true, leb-false, lt-ltb, le-ltb}
use Rattle.profile_text.specs.Text.{Rounded, nearer, whole_metres}

-- ---- how far z decimetres lie from k metres, in ℕ: omega reads no ℤ

abbrev far : ℤ → ℤ → ℕ
far (pos a) (pos b) = (a - 10 * b) + (10 * b - a)
far (pos a) (negsuc b) = a + 10 * suc b
far (negsuc a) (pos b) = suc a + 10 * b
far (negsuc a) (negsuc b) = (10 * suc b - suc a) + (suc a - 10 * suc b)

pub abs_sub : (a b : ℕ) → nat_abs (sub_ℕ a b) ≡ (a - b) + (b - a)
abs_sub a b = go (ltb a b) refl
  where
    go : (t : Bool) → ltb a b ≡ t → nat_abs (cond t (negsuc (b - suc a)) (pos (a - b))) ≡ (a - b) + (b - a)
    go true e = omega (arith, ltb-true a b e)
    go false e = omega (arith, ltb-false a b e)

pub pos_less : (a b : ℕ) → nat_abs (pos a -ℤ pos b) ≡ (a - b) + (b - a)
pos_less a zero = omega arith
pos_less a (suc b) = abs_sub a (suc b)

neg_less : (a b : ℕ) → nat_abs (negsuc a -ℤ pos b) ≡ suc a + b
neg_less a zero = abs_sub zero (suc a) ∙ omega arith
neg_less a (suc b) = omega arith

far_is : (z k : ℤ) → nat_abs (z -ℤ pos 10 *ℤ k) ≡ far z k
far_is (pos a) (pos b) = pos_less a (10 * b)
far_is (pos a) (negsuc b) = rw (neg_ℤ-neg_ℤ (pos (10 * suc b)))
far_is (negsuc a) (pos b) = neg_less a (10 * b)
far_is (negsuc a) (negsuc b) = rw (neg_ℤ-neg_ℤ (pos (10 * suc b))) (abs_sub (10 * suc b) (suc a))

-- ---- the nearer of two

near_low : (n : ℕ) → n % 10 < 5 → nearer n ≡ n / 10
near_low n h = rw (lt-ltb (n - 10 * (n / 10)) (10 * (n / 10 + 1) - n) (omega arith))

near_high : (n : ℕ) → 5 ≤ n % 10 → nearer n ≡ n / 10 + 1
near_high n h = rw (le-ltb (n - 10 * (n / 10)) (10 * (n / 10 + 1) - n) (omega arith))

-- m metres are at most five decimetres from n, below it by less
record Within (n m : ℕ) : Type 0 where
  over : 10 * m ≤ n + 5
  under : n < 10 * m + 5

within : (n : ℕ) → Within n (nearer n)
within n = go (ltb (n - 10 * (n / 10)) (10 * (n / 10 + 1) - n)) refl
  where
    go : (t : Bool) → ltb (n - 10 * (n / 10)) (10 * (n / 10 + 1) - n) ≡ t → Within n (cond t (n / 10) (n / 10 + 1))
    go true e = let h = ltb-true (n - 10 * (n / 10)) (10 * (n / 10 + 1) - n) e in record { over = omega arith; under = omega arith }
    go false e = let h = ltb-false (n - 10 * (n / 10)) (10 * (n / 10 + 1) - n) e in record { over = omega arith; under = omega arith }

-- ---- the definition is met, and by one number alone

far_near : (z k : ℤ) → far z (whole_metres z) ≤ far z k
far_near (pos n) (pos b) = omega (arith, (within n).over, (within n).under)
far_near (pos n) (negsuc b) = omega (arith, (within n).over, (within n).under)
far_near (negsuc n) k = minus (nearer (suc n)) (within (suc n)) k
  where
    minus : (m : ℕ) → Within (suc n) m → (k : ℤ) → far (negsuc n) (neg_ℤ (pos m)) ≤ far (negsuc n) k
    minus zero w (pos b) = omega (arith, w.under)
    minus zero w (negsuc b) = omega (arith, w.under)
    minus (suc m) w (pos b) = omega (arith, w.over, w.under)
    minus (suc m) w (negsuc b) = omega (arith, w.over, w.under)

far_tie : (z k : ℤ) → far z k ≡ far z (whole_metres z) → nat_abs k ≤ nat_abs (whole_metres z)
far_tie (pos n) (pos b) e = omega (arith, (within n).over, (within n).under)
far_tie (pos n) (negsuc b) e = omega (arith, (within n).over, (within n).under)
far_tie (negsuc n) k e = minus (nearer (suc n)) (within (suc n)) k e
  where
    minus : (m : ℕ) → Within (suc n) m → (k : ℤ) → far (negsuc n) k ≡ far (negsuc n) (neg_ℤ (pos m)) → nat_abs k ≤ nat_abs (neg_ℤ (pos m))
    minus zero w (pos b) e = omega (arith, w.under)
    minus zero w (negsuc b) e = omega (arith, w.under)
    minus (suc m) w (pos b) e = omega (arith, w.over, w.under)
    minus (suc m) w (negsuc b) e = omega (arith, w.over, w.under)

pub whole_metres_rounded : (z : ℤ) → Rounded z (whole_metres z)
whole_metres_rounded z =
    record {
      near = λ (k : ℤ). rw (far_is z (whole_metres z), far_is z k) (far_near z k);
      tie = λ (k : ℤ) (e : nat_abs (z -ℤ pos 10 *ℤ k) ≡ nat_abs (z -ℤ pos 10 *ℤ whole_metres z)). far_tie z k (sym (far_is z k) ∙ e ∙ far_is z (whole_metres z));
    }

-- as far from z and as far from zero, and no further from z than zero is
far_only : (z m n : ℤ) → far z m ≤ far z (pos 0) → far z m ≡ far z n → nat_abs m ≡ nat_abs n → m ≡ n
far_only z (pos a) (pos b) h e f = ap pos f
far_only z (negsuc a) (negsuc b) h e f = ap negsuc (omega arith)
far_only (pos a) (pos m) (negsuc n) h e f = absurd (omega arith)
far_only (negsuc a) (pos m) (negsuc n) h e f = absurd (omega arith)
far_only (pos a) (negsuc m) (pos n) h e f = absurd (omega arith)
far_only (negsuc a) (negsuc m) (pos n) h e f = absurd (omega arith)

pub rounded_only : {z m n : ℤ} → Rounded z m → Rounded z n → m ≡ n
rounded_only {z} {m} {n} one two =
    let same : nat_abs (z -ℤ pos 10 *ℤ m) ≡ nat_abs (z -ℤ pos 10 *ℤ n) = omega (arith, one.near n, two.near m) in
    let size : nat_abs m ≡ nat_abs n = omega (arith, one.tie n (sym same), two.tie m same) in
    far_only z m n (rw (far_is z m, far_is z (pos 0)) at (one.near (pos 0))) (sym (far_is z m) ∙ same ∙ far_is z n) size

-- ---- by quotient and remainder, as the code does it

minus_five : (r : ℕ) → le_z (neg_ℤ (pos r)) (negsuc 4) ≡ true → 5 ≤ r
minus_five zero e = absurd (true≢false (sym e))
minus_five (suc r) e = omega (arith, leb-true 4 r e)

not_minus_five : (r : ℕ) → le_z (neg_ℤ (pos r)) (negsuc 4) ≡ false → r < 5
not_minus_five zero e = omega arith
not_minus_five (suc r) e = omega (arith, leb-false 4 r e)

never_five : (r : ℕ) → le_z (pos 5) (neg_ℤ (pos r)) ≡ true → ⊥
never_five zero e = true≢false (sym e)
never_five (suc r) e = true≢false (sym e)

further : (q : ℕ) → negsuc q ≡ neg_ℤ (pos q) -ℤ pos 1
further zero = refl
further (suc q) = ap negsuc (omega arith)

pub one_up : (z : ℤ) → le_z (pos 5) (rem_z z (pos 10)) ≡ true → whole_metres z ≡ quot_z z (pos 10) +ℤ pos 1
one_up (pos n) e = ap pos (near_high n (leb-true 5 (n % 10) e))
one_up (negsuc n) e = absurd (never_five (suc n % 10) e)

pub one_down : (z : ℤ) → le_z (rem_z z (pos 10)) (negsuc 4) ≡ true → whole_metres z ≡ quot_z z (pos 10) -ℤ pos 1
one_down (pos n) e = absurd (true≢false (sym e))
one_down (negsuc n) e = ap (λ m. neg_ℤ (pos m)) (near_high (suc n) (minus_five (suc n % 10) e) ∙ add-one (suc n / 10)) ∙ further (suc n / 10)

pub as_cut : (z : ℤ) → le_z (pos 5) (rem_z z (pos 10)) ≡ false → le_z (rem_z z (pos 10)) (negsuc 4) ≡ false → whole_metres z ≡ quot_z z (pos 10)
as_cut (pos n) e f = ap pos (near_low n (omega (arith, leb-false 5 (n % 10) e)))
as_cut (negsuc n) e f = ap (λ m. neg_ℤ (pos m)) (near_low (suc n) (not_minus_five (suc n % 10) f))

-- ---- 16 bits

minus_mag : (m k : ℕ) → m < k → mag (neg_ℤ (pos m)) < k
minus_mag zero k h = omega arith
minus_mag (suc m) k h = omega arith

pub whole_metres-mag : (z : ℤ) → mag z < 32768 → mag (whole_metres z) < 3278
whole_metres-mag (pos n) h = omega (arith, (within n).over)
whole_metres-mag (negsuc n) h = minus_mag (nearer (suc n)) 3278 (omega (arith, (within (suc n)).over))

pub cut_mag : (z : ℤ) → mag z < 32768 → mag (quot_z z (pos 10)) < 3277
cut_mag (pos n) h = omega arith
cut_mag (negsuc n) h = minus_mag (suc n / 10) 3277 (omega arith)

pub rest_mag : (z : ℤ) → mag (rem_z z (pos 10)) < 10
rest_mag (pos n) = omega arith
rest_mag (negsuc n) = minus_mag (suc n % 10) 10 (omega arith)
