-- A part of a float, from none of it to all of it, is no larger than the float (`part_no_larger`), and is cast to a whole number no larger than any that bounds the float (`part_cast`).
-- The idea: a fraction that is no larger than a value of the format rounds to a value that is no larger either, whatever the signs are (`round_within`); a product
-- by a part is such a fraction.
use Rattle.std.proofs.Common.{◌≡◌, ℕ, zero, suc, ◌+◌, ◌-◌, ◌*◌, ◌/◌, ◌%◌, ◌^◌, ◌<◌, ◌≤◌, min, Bool, true, false, cond, ◌&&◌, ◌||◌, T, eqb, ltb, leb, ◌⊎◌, ℤ, pos, negsuc, neg_ℤ, nat_abs, sym, refl, ap, ◌∙◌, subst, ⊎_elim, true≢false, le_trans, le_of_eq, lt_of_lt_of_le, lt_of_le_of_lt, lt_irrefl, mul-le-mul_right, mul_assoc, mul_comm, div-lt_iff_lt-mul, mul-le-mul, mul-lt-mul_of_pos_right, mul-pos, zero-mul, mul-one, mul_right_comm, not-le_of_lt, le_of_mul-le-mul_right, mul-div_cancel, arith, ltb→lt, leb→le, pow_pos, pow_mono, pow-add, shl_lt, ltb-true, eqb-true, leb-false, leb-true}
use Prim.Native.Nat.compare
use Prim.Native.Nat.{compare, Ordering}
use native.Mathlib.Nat.{mul-mod_left}
use lib.Pow.{pow-lt}
use lib.Ieee.{Float, nan, inf, fin, Format, binary32, prec, emax, low, up, down, size, nearest, round, mul, unlike, lt, eq, le, of_int, to_signed, fits}
use lib.Ieee.Digits.{size-le, back}
use lib.Ieee.Exact.{HasValue, units_val}
use lib.Ieee.Fits.{round_is, down_pos, and_l, and_r, reach}
use lib.Ieee.Nearest.{closest, closest_mono}
use lib.Ieee.Order.{drop, kept}
use lib.Ieee.Positive.{num, den, den_pos}
use lib.Ieee.Scale.{grid, overflow, finite}

-- ---- a fraction of at most q * 2 ^ j units rounds to at most as many

below_any : (u : ℕ) → 0 < u → compare 0 u ≡ Ordering.lt
below_any zero h = absurd (lt_irrefl 0 h)
below_any (suc u) h = compare.zero-suc u

closest_whole : (w u : ℕ) → 0 < u → closest (w * u) u ≡ w
closest_whole w u U =
    ap (λ (x : ℕ). nearest x (compare (w * u % u * 2) u)) (mul-div_cancel w U)
    ∙ ap (λ (x : ℕ). nearest w (compare (x * 2) u)) (mul-mod_left w u)
    ∙ ap (λ (o : Ordering). nearest w o) (below_any u U)

spare : (z p j : ℕ) → z ≤ p + j → z - p ≤ j
spare z p j h = omega arith

module _ (f : Format) (a c q j : ℕ) (C : 0 < c) (small : q < 2 ^ prec f) (bound : a * 2 ^ low f ≤ q * 2 ^ j * c) where
  abbrev scaled : ℕ
  scaled = a * 2 ^ low f

  abbrev dropped : ℕ
  dropped = drop (prec f) scaled c

  dropped-le : dropped ≤ j
  dropped-le =
      let far : scaled < 2 ^ (prec f + j) * c = lt_of_le_of_lt bound (mul-lt-mul_of_pos_right (shl_lt (prec f) j small) C) in
      spare (size (scaled / c)) (prec f) j (size-le (scaled / c) (prec f + j) ((div-lt_iff_lt-mul C).1 far))

  -- q * 2 ^ j in units of what is kept
  abbrev whole : ℕ
  whole = q * 2 ^ (j - dropped)

  whole_is : whole * 2 ^ dropped ≡ q * 2 ^ j
  whole_is =
      mul_assoc q (2 ^ (j - dropped)) (2 ^ dropped)
      ∙ ap (λ (x : ℕ). q * x) (sym (pow-add 2 (j - dropped) dropped) ∙ ap (λ (x : ℕ). 2 ^ x) (back j dropped dropped-le))

  cross : scaled * 2 ^ dropped ≤ whole * 2 ^ dropped * (c * 2 ^ dropped)
  cross =
      le_trans (mul-le-mul_right (2 ^ dropped) bound)
      (le_of_eq (mul_assoc (q * 2 ^ j) c (2 ^ dropped) ∙ ap (λ (x : ℕ). x * (c * 2 ^ dropped)) (sym whole_is)))

  kept-le : kept (prec f) scaled c ≤ whole
  kept-le =
      le_trans (closest_mono scaled (c * 2 ^ dropped) (whole * 2 ^ dropped) (2 ^ dropped) (mul-pos C (pow_pos dropped)) (pow_pos dropped) cross)
      (le_of_eq (closest_whole whole (2 ^ dropped) (pow_pos dropped)))

  grid_below : grid f a c ≤ q * 2 ^ j
  grid_below = le_trans (mul-le-mul_right (2 ^ dropped) kept-le) (le_of_eq whole_is)

-- ---- a float of at most v units in size

pub record Within (f : Format) (v : ℕ) (x : Float) : Type 0 where
  pub is_finite : T (finite x)
  pub size : num x * 2 ^ low f ≤ v * den x

of_value : (f : Format) (s : Bool) (g v : ℕ) (x : Float) → HasValue x s g (2 ^ low f) → g ≤ v → Within f v x
of_value f s g v nan h l = absurd h
of_value f s g v (inf t) h l = absurd h
of_value f s g v (fin t m e) h l = record { is_finite = tt; size = le_trans (le_of_eq h.1) (mul-le-mul_right (down e) l) }

round_value : (f : Format) (s : Bool) (a c : ℕ) → grid f a c < overflow f → HasValue (round f s a c) s (grid f a c) (2 ^ low f)
round_value f s a c h =
    subst (λ (z : Float). HasValue z s (grid f a c) (2 ^ low f)) (sym (round_is f s a c))
    (units_val f s (kept (prec f) (a * 2 ^ low f) c) (drop (prec f) (a * 2 ^ low f) c) h)

-- q * 2 ^ j units are a value of the format: q has no more digits than the format keeps, and it is no infinity
pub record Value (f : Format) (q j : ℕ) : Type 0 where
  pub digits : q < 2 ^ prec f
  pub below : q * 2 ^ j < overflow f

pub round_within : (f : Format) (s : Bool) (a c q j : ℕ) → 0 < c → Value f q j → a * 2 ^ low f ≤ q * 2 ^ j * c → Within f (q * 2 ^ j) (round f s a c)
round_within f s a c q j C value bound =
    let few : grid f a c ≤ q * 2 ^ j = grid_below f a c q j C value.digits bound in
    of_value f s (grid f a c) (q * 2 ^ j) (round f s a c) (round_value f s a c (lt_of_le_of_lt few value.below)) few

pub int_within : (f : Format) (z : ℤ) (q j : ℕ) → Value f q j → nat_abs z * 2 ^ low f ≤ q * 2 ^ j → Within f (q * 2 ^ j) (of_int f z)
unfolding of_int
int_within f (pos n) q j value bound = round_within f false n 1 q j (pow_pos 0) value (le_trans bound (le_of_eq (sym (mul-one (q * 2 ^ j)))))
int_within f (negsuc n) q j value bound = round_within f true (suc n) 1 q j (pow_pos 0) value (le_trans bound (le_of_eq (sym (mul-one (q * 2 ^ j)))))

-- ---- a part: from 0 to 1

-- finite, and at most 1 in size
pub record Part (t : Float) : Type 0 where
  pub is_finite : T (finite t)
  pub size : num t ≤ den t

-- the sign of a product
abbrev mul_sign : Float → Float → Bool
mul_sign nan y = false
mul_sign (inf s) y = false
mul_sign (fin s m e) nan = false
mul_sign (fin s m e) (inf t) = false
mul_sign (fin s m e) (fin t n d) = unlike s t

mul-round : (f : Format) (x t : Float) → T (finite x) → T (finite t) → mul f x t ≡ round f (mul_sign x t) (num x * num t) (den x * den t)
unfolding mul
mul-round f nan t p q = absurd p
mul-round f (inf s) t p q = absurd p
mul-round f (fin s m e) nan p q = absurd q
mul-round f (fin s m e) (inf t) p q = absurd q
mul-round f (fin s m e) (fin t n d) p q = refl

pub part_within : (f : Format) (x t : Float) (q j : ℕ) → Value f q j → Within f (q * 2 ^ j) x → Part t → Within f (q * 2 ^ j) (mul f x t)
part_within f x t q j value within part =
    subst (λ (y : Float). Within f (q * 2 ^ j) y) (sym (mul-round f x t within.is_finite part.is_finite))
    (round_within f (mul_sign x t) (num x * num t) (den x * den t) q j (mul-pos (den_pos x) (den_pos t)) value
    (le_trans (le_of_eq (mul_right_comm (num x) (num t) (2 ^ low f)))
    (le_trans (mul-le-mul within.size part.size) (le_of_eq (mul_assoc (q * 2 ^ j) (den x) (den t))))))

-- ---- a float that the tests place from 0 to 1, or not-a-number

zero_is : of_int binary32 (pos 0) ≡ fin false 0 (pos 0)
unfolding of_int
zero_is = refl

one_is : of_int binary32 (pos 1) ≡ fin false 1 (pos 0)
unfolding of_int
one_is = refl

-- ±a / 1 at most 1 / 1, by the test or by being nothing
at_most : (a b : ℕ) (x y : Bool) → (ltb a b || (eqb a b && (x || y))) ≡ true → a ≤ b
at_most a b x y e = by (ltb a b) (eqb a b) refl refl e
  where
    by : (p q : Bool) → ltb a b ≡ p → eqb a b ≡ q → (p || (q && (x || y))) ≡ true → a ≤ b
    by true q e₁ e₂ r = omega (arith, ltb-true a b e₁)
    by false true e₁ e₂ r = le_of_eq (eqb-true a b e₂)
    by false false e₁ e₂ r = absurd (true≢false (sym r))

nothing : (a b : ℕ) (x : Bool) → (eqb a b && x) ≡ true → a ≡ b
nothing a b x e = by (eqb a b) refl e
  where
    by : (q : Bool) → eqb a b ≡ q → (q && x) ≡ true → a ≡ b
    by true p r = eqb-true a b p
    by false p r = absurd (true≢false (sym r))

tested : (t : Float) → le (fin false 0 (pos 0)) t ≡ true → le t (fin false 1 (pos 0)) ≡ true → Part t
unfolding le lt eq
tested nan p q = absurd (true≢false (sym p))
tested (inf true) p q = absurd (true≢false (sym p))
tested (inf false) p q = absurd (true≢false (sym q))
tested (fin false m e) p q = record { is_finite = tt; size = omega (arith, at_most (m * up e * 1) (1 * 1 * down e) true (eqb (m * up e * 1) 0) q) }
tested (fin true m e) p q = record { is_finite = tt; size = omega (arith, nothing (0 * 1 * down e) (m * up e * 1) (eqb (0 * 1 * down e) 0) p) }

-- as a clamp to 0 to 1 leaves it
abbrev pub IsPart : Float → Type 0
IsPart t = (t ≡ nan) ⊎ ((le (of_int binary32 (pos 0)) t ≡ true) × (le t (of_int binary32 (pos 1)) ≡ true))

pub part_of : (t : Float) → le (of_int binary32 (pos 0)) t ≡ true → le t (of_int binary32 (pos 1)) ≡ true → Part t
part_of t p q = tested t (rw zero_is at p) (rw one_is at q)

-- ---- the cast of a float within a whole number

suc_above : (n : ℕ) → n < suc n
suc_above n = omega arith

le_of_lt_suc : {a n : ℕ} → a < suc n → a ≤ n
le_of_lt_suc h = omega arith

either_small : (s : Bool) (a b n : ℕ) → a ≤ n → b ≤ n → nat_abs (cond s (neg_ℤ (pos a)) (pos b)) ≤ n
either_small true zero b n p q = omega arith
either_small true (suc a) b n p q = p
either_small false a b n p q = q

pub cast_within : (f : Format) (h n : ℕ) (x : Float) → Within f (n * 2 ^ low f) x → nat_abs (to_signed h x) ≤ n
unfolding to_signed
cast_within f h n nan w = absurd w.is_finite
cast_within f h n (inf s) w = absurd w.is_finite
cast_within f h n (fin s m e) w =
    let whole : m * up e ≤ n * down e
    = le_of_mul-le-mul_right (le_trans w.size (le_of_eq (mul_right_comm n (2 ^ low f) (down e)))) (pow_pos (low f)) in
    let cut : m * up e / down e ≤ n
    = le_of_lt_suc ((div-lt_iff_lt-mul (down_pos e)).1 (lt_of_le_of_lt whole (mul-lt-mul_of_pos_right (suc_above n) (down_pos e)))) in
    either_small s (min (m * up e / down e) (2 ^ h)) (min (m * up e / down e) (2 ^ h - 1)) n (omega arith) (omega arith)

mul-nan : (f : Format) (x : Float) → mul f x nan ≡ nan
unfolding mul
mul-nan f nan = refl
mul-nan f (inf s) = refl
mul-nan f (fin s m e) = refl

cast_nan : (h n : ℕ) → nat_abs (to_signed h nan) ≤ n
unfolding to_signed
cast_nan h n = omega arith

-- q * 2 ^ i as units: a whole number of the format, for an i that leaves it finite
as_units : (f : Format) (q i : ℕ) → q * 2 ^ i * 2 ^ low f ≡ q * 2 ^ (i + low f)
as_units f q i = mul_assoc q (2 ^ i) (2 ^ low f) ∙ ap (λ (x : ℕ). q * x) (sym (pow-add 2 i (low f)))

whole_value : (f : Format) (q i : ℕ) → q < 2 ^ prec f → prec f + i ≤ suc (emax f) → Value f q (i + low f)
whole_value f q i digits room = record {
  digits = digits;
  below = lt_of_lt_of_le (shl_lt (prec f) (i + low f) digits) (pow_mono (fits_in (prec f) i (low f) (suc (emax f)) room));
}
  where
    fits_in : (p k l m : ℕ) → p + k ≤ m → p + (k + l) ≤ l + m
    fits_in p k l m h = omega arith

module _ (z : ℤ) (t : Float) (q i : ℕ) (digits : q < 2 ^ 24) (room : 24 + i ≤ 128) (bound : nat_abs z ≤ q * 2 ^ i) where
  int_bound : Within binary32 (q * 2 ^ (i + low binary32)) (of_int binary32 z)
  int_bound =
      int_within binary32 z q (i + low binary32) (whole_value binary32 q i digits room)
      (le_trans (mul-le-mul_right (2 ^ low binary32) bound) (le_of_eq (as_units binary32 q i)))

  -- heights and places part of the way: a whole number within q * 2 ^ i as a float, a part of it, cut toward zero, is within that too
  pub part_cast : IsPart t → nat_abs (to_signed 31 (mul binary32 (of_int binary32 z) t)) ≤ q * 2 ^ i
  part_cast part =
      ⊎_elim (λ (e : t ≡ nan). rw (e, mul-nan binary32 (of_int binary32 z)) (cast_nan 31 (q * 2 ^ i)))
      (λ (e : (le (of_int binary32 (pos 0)) t ≡ true) × (le t (of_int binary32 (pos 1)) ≡ true)).
      cast_within binary32 31 (q * 2 ^ i) (mul binary32 (of_int binary32 z) t)
      (rw (as_units binary32 q i)
      (part_within binary32 (of_int binary32 z) t q (i + low binary32) (whole_value binary32 q i digits room) int_bound (part_of t e.0 e.1))))
      part

-- ---- the law itself: a float that its format holds, and any part of it

-- such a float is q * 2 ^ j units, a value of the format
record Own (f : Format) (x : Float) : Type 0 where
  q : ℕ
  j : ℕ
  value : Value f q j
  is : num x * 2 ^ low f ≡ q * 2 ^ j * den x

none : (f : Format) (s : Bool) (e : ℤ) → Own f (fin s zero e)
none f s e = record {
  q = 0;
  j = 0;
  value = record { digits = pow_pos (prec f); below = subst (λ (x : ℕ). x < overflow f) (sym (zero-mul (2 ^ 0))) (pow_pos (low f + suc (emax f))) };
  is = ap (λ (x : ℕ). x * 2 ^ low f) (zero-mul (up e)) ∙ zero-mul (2 ^ low f) ∙ sym (ap (λ (x : ℕ). x * down e) (zero-mul (2 ^ 0)) ∙ zero-mul (down e));
}

-- 2 ^ k is below 2 ^ l or at it only where k is
exponent : (k l : ℕ) → 2 ^ k ≤ 2 ^ l → k ≤ l
exponent k l h = by (leb k l) refl
  where
    by : (t : Bool) → leb k l ≡ t → k ≤ l
    by true e = leb-true k l e
    by false e = absurd (not-le_of_lt (pow-lt (leb-false k l e)) h)

some : (f : Format) (s : Bool) (m : ℕ) (e : ℤ) → m < 2 ^ prec f → down e ≤ 2 ^ low f → m * up e < 2 ^ suc (emax f) * down e → Own f (fin s m e)
some f s m (pos k) digits fine below = record {
  q = m;
  j = k + low f;
  value = record {
    digits = digits;
    below =
        subst (λ (x : ℕ). x < overflow f) (as_units f m k)
        (lt_of_lt_of_le (mul-lt-mul_of_pos_right (lt_of_lt_of_le below (le_of_eq (mul-one (2 ^ suc (emax f))))) (pow_pos (low f)))
        (le_of_eq (mul_comm (2 ^ suc (emax f)) (2 ^ low f) ∙ sym (pow-add 2 (low f) (suc (emax f))))));
  };
  is = as_units f m k ∙ sym (mul-one (m * 2 ^ (k + low f)));
}
some f s m (negsuc k) digits fine below =
    let room : suc k ≤ low f = exponent (suc k) (low f) fine in record {
      q = m;
      j = low f - suc k;
      value = record { digits = digits; below = lt_of_lt_of_le (shl_lt (prec f) (low f - suc k) digits) (pow_mono (shorter (prec f) (low f) (suc k) (suc (emax f)) (reach f))) };
      is =
          ap (λ (x : ℕ). x * 2 ^ low f) (mul-one m)
          ∙ sym (mul_assoc m (2 ^ (low f - suc k)) (2 ^ suc k) ∙ ap (λ (x : ℕ). m * x) (sym (pow-add 2 (low f - suc k) (suc k)) ∙ ap (λ (x : ℕ). 2 ^ x) (back (low f) (suc k) room)));
    }
  where
    shorter : (p l k e : ℕ) → p ≤ e → p + (l - k) ≤ l + e
    shorter p l k e h = omega arith

own : (f : Format) (x : Float) → T (finite x) → T (fits f x) → Own f x
unfolding fits
own f nan p h = absurd p
own f (inf s) p h = absurd p
own f (fin s zero e) p h = none f s e
own f (fin s (suc m) e) p h =
    let o = eqb (suc m % 2) 1 in
    let a = ltb (suc m) (2 ^ prec f) in
    let b = leb (down e) (2 ^ low f) in
    let c = ltb (suc m * up e) (2 ^ suc (emax f) * down e) in
    some f s (suc m) e (ltb→lt (suc m) (2 ^ prec f) (and_r o a (and_l (o && a) b (and_l (o && a && b) c h))))
    (leb→le (down e) (2 ^ low f) (and_r (o && a) b (and_l (o && a && b) c h)))
    (ltb→lt (suc m * up e) (2 ^ suc (emax f) * down e) (and_r (o && a && b) c h))

-- for a finite x and a t from 0 to 1, x * t is finite and at most x in size
pub part_no_larger : (f : Format) (x t : Float) → T (finite x) → T (fits f x) → Part t
    → T (finite (mul f x t)) × (num (mul f x t) * den x ≤ num x * den (mul f x t))
part_no_larger f x t p h part =
    let o = own f x p h in
    let v : ℕ = o.q * 2 ^ o.j in
    let y : Float = mul f x t in
    let w : Within f v y = part_within f x t o.q o.j o.value (record { is_finite = p; size = le_of_eq o.is }) part in (
      w.is_finite,
      le_of_mul-le-mul_right
          (le_trans (le_of_eq (mul_right_comm (num y) (den x) (2 ^ low f)))
          (le_trans (mul-le-mul_right (den x) w.size)
          (le_of_eq (mul_right_comm v (den y) (den x) ∙ ap (λ (z : ℕ). z * den y) (sym o.is) ∙ mul_right_comm (num x) (2 ^ low f) (den y)))))
          (pow_pos (low f)),
    )
