-- A finite single float counted in the smallest one, 2 ^ -149: how far it lies above zero, `ahead`, and how far below, `behind`. One of the two is 0.
-- Then x < y is `ahead x + behind y < ahead y + behind x`, and x = y the same with `≡`: statements about whole numbers, which `omega` reads (`compared`, `le_parts`).
-- Against zero: `negative_is`, `zero_is`, `only_zeros`, and `mirrored`, for an angle that is mirrored where a value is negative.
use Rattle.std.proofs.Common.{◌≡◌, ℕ, zero, suc, ◌+◌, ◌-◌, ◌*◌, ◌/◌, ◌^◌, ◌<◌, ◌≤◌, min, Bool, true, false, cond, ◌&&◌, ◌||◌, T, eqb, ◌↔◌, ℤ, pos, negsuc, sym, refl, ap, ◌∙◌, le_of_eq, lt_of_lt_of_le, le_of_suc-le-suc, le_of_lt, lt_irrefl, mul_assoc, lt_of_mul-lt-mul_right, mul-lt-mul_of_pos_right, mul-pos, lt_of_not-le, mul-one, sub-add_cancel, mul-div_cancel, arith, lit≤, eqb→eq, ltb→lt, lt→ltb, leb→le, pow_pos, pow-add}
use mathlib.Core.Logic.Iff
use native.Mathlib.Nat.{eq_of_mul-eq-mul_right, two-pow-succ}
use lib.Pow.{pow-lt}
use lib.Ieee.{Float, nan, inf, fin, binary32, up, down, below, level, fits, lt, eq, le, neg}
use lib.Ieee.Fits.{up_pos, down_pos, and_i, and_l, and_r, eq→eqb, neg-fits}
use Rattle.num.specs.Order.{is_finite, is_sign_negative}
use Rattle.angle.specs.Bearing as Bearing
use Rattle.angle.specs.Bearing.{magnitude}

-- ---- finite single floats

pub record Single (x : Float) : Type 0 where
  pub fitting : T (fits binary32 x)
  pub finite : T (is_finite x)

pub single_zero : Single Bearing.zero
unfolding fits
single_zero = record { fitting = tt; finite = tt }

pub single_neg : {x : Float} → Single x → Single (neg x)
unfolding neg
single_neg {x = nan} h = absurd h.finite
single_neg {x = inf s} h = absurd h.finite
single_neg {x = fin s m e} h = record { fitting = neg-fits binary32 (fin s m e) h.fitting; finite = tt }

-- ---- `magnitude` is exact: no single float has a finer fraction than 2 ^ -149

pow_le_back : (i l : ℕ) → 2 ^ i ≤ 2 ^ l → i ≤ l
pow_le_back i l h = le_of_suc-le-suc (lt_of_not-le (λ (g : suc l ≤ i). lt_irrefl (2 ^ l) (lt_of_lt_of_le (pow-lt g) h)))

multiple : (x q d : ℕ) → 0 < d → x ≡ q * d → x ≡ x / d * d
multiple x q d p e = rw (e, mul-div_cancel q p)

exact : (l m : ℕ) (e : ℤ) → down e ≤ 2 ^ l → m * up e * 2 ^ l ≡ m * up e * 2 ^ l / down e * down e
exact l m (pos k) h = multiple (m * 2 ^ k * 2 ^ l) (m * 2 ^ k * 2 ^ l) 1 (pow_pos 0) (sym (mul-one (m * 2 ^ k * 2 ^ l)))
exact l m (negsuc k) h =
    let split : 2 ^ l ≡ 2 ^ (l - suc k) * 2 ^ suc k = ap (λ (i : ℕ). 2 ^ i) (sym (sub-add_cancel (pow_le_back (suc k) l h))) ∙ pow-add 2 (l - suc k) (suc k) in
    multiple (m * 1 * 2 ^ l) (m * 1 * 2 ^ (l - suc k)) (2 ^ suc k) (pow_pos (suc k)) (rw split (sym (mul_assoc (m * 1) (2 ^ (l - suc k)) (2 ^ suc k))))

fraction_le : (s : Bool) (m : ℕ) (e : ℤ) → T (fits binary32 (fin s m e)) → down e ≤ 2 ^ 149
unfolding fits
fraction_le s zero (pos k) t = lit≤ tt
fraction_le s zero (negsuc k) t = absurd (omega (arith, eqb→eq, two-pow-succ k))
fraction_le s (suc m) e t = leb→le (down e) (2 ^ 149) (search (and_l, and_r))

counted : (s : Bool) (m : ℕ) (e : ℤ) → T (fits binary32 (fin s m e)) → m * up e * 2 ^ 149 ≡ magnitude (fin s m e) * down e
counted s m e t = exact 149 m e (fraction_le s m e t)

-- ---- ±x against ±y, for whole numbers x and y

-- how far ±x lies above zero and ±y below it, together
abbrev lead : Bool → ℕ → Bool → ℕ → ℕ
lead s x t y = cond s 0 x + cond t y 0

below_is : (s t : Bool) (x y : ℕ) → T (below s x t y) ↔ (lead s x t y < lead t y s x)
below_is false false x y = omega (arith, ltb→lt, lt→ltb)
below_is false true x y = omega (arith, ltb→lt, lt→ltb)
below_is true false x y = omega (arith, ltb→lt, lt→ltb)
below_is true true x y = omega (arith, ltb→lt, lt→ltb)

equal_is : (x y : ℕ) → T (eqb x y && true) ↔ (x ≡ y)
equal_is x y = (λ h. eqb→eq x y (and_l (eqb x y) true h), λ e. and_i (eqb x y) true (eq→eqb e) tt)

both_zero_is : (x y : ℕ) → T (eqb x y && eqb x 0) ↔ (x + y ≡ 0)
both_zero_is x y = (
  λ h. omega (arith, eqb→eq x y (and_l (eqb x y) (eqb x 0) h), eqb→eq x 0 (and_r (eqb x y) (eqb x 0) h)),
  λ e. and_i (eqb x y) (eqb x 0) (omega (arith, eq→eqb)) (omega (arith, eq→eqb)),
)

level_is : (s t : Bool) (x y : ℕ) → T (level s x t y) ↔ (lead s x t y ≡ lead t y s x)
level_is false false x y = Iff.trans (equal_is x y) (omega arith)
level_is false true x y = Iff.trans (both_zero_is x y) (omega arith)
level_is true false x y = Iff.trans (both_zero_is x y) (omega arith)
level_is true true x y = Iff.trans (equal_is x y) (omega arith)

-- x and y counted in another unit are a and b: x / v is a / u, and y / v is b / u
lead_unit : (s t : Bool) (x y a b u v : ℕ) → x * u ≡ a * v → y * u ≡ b * v → lead s x t y * u ≡ lead s a t b * v
lead_unit false false x y a b u v p q = omega arith
lead_unit false true x y a b u v p q = omega arith
lead_unit true false x y a b u v p q = omega arith
lead_unit true true x y a b u v p q = omega arith

lt_unit : (x y a b u v : ℕ) → 0 < u → 0 < v → x * u ≡ a * v → y * u ≡ b * v → (x < y) ↔ (a < b)
lt_unit x y a b u v u_pos v_pos p q = (
  λ h. lt_of_mul-lt-mul_right v (omega (arith, mul-lt-mul_of_pos_right h u_pos)),
  λ h. lt_of_mul-lt-mul_right u (omega (arith, mul-lt-mul_of_pos_right h v_pos)),
)

eq_unit : (x y a b u v : ℕ) → 0 < u → 0 < v → x * u ≡ a * v → y * u ≡ b * v → (x ≡ y) ↔ (a ≡ b)
eq_unit x y a b u v u_pos v_pos p q = (
  λ h. eq_of_mul-eq-mul_right v v_pos a b (sym p ∙ ap (λ (z : ℕ). z * u) h ∙ q),
  λ h. eq_of_mul-eq-mul_right u u_pos x y (p ∙ ap (λ (z : ℕ). z * v) h ∙ sym q),
)

-- ---- a value's parts

abbrev pub ahead : Float → ℕ
ahead x = cond (is_sign_negative x) 0 (magnitude x)

abbrev pub behind : Float → ℕ
behind x = cond (is_sign_negative x) (magnitude x) 0

pub record Parts (x : Float) : Type 0 where
  pub whole : magnitude x ≡ ahead x + behind x
  pub one_sided : min (ahead x) (behind x) ≡ 0
  pub neg_ahead : ahead (neg x) ≡ behind x
  pub neg_behind : behind (neg x) ≡ ahead x

pub parts : {x : Float} → Single x → Parts x
unfolding neg
parts {x = nan} h = absurd h.finite
parts {x = inf s} h = absurd h.finite
parts {x = fin true m e} h = omega arith
parts {x = fin false m e} h = omega arith

-- ---- the tests of `lib.Ieee` by the parts

pub record Compared (x y : Float) : Type 0 where
  pub lt_is : T (lt x y) ↔ (ahead x + behind y < ahead y + behind x)
  pub eq_is : T (eq x y) ↔ (ahead x + behind y ≡ ahead y + behind x)

-- x / d, which is a in units of 1 / u, brought over the product with another denominator, as the tests do with two values
cross : (x a d d' u : ℕ) → x * u ≡ a * d → (x * d' * u ≡ a * (d * d')) × (x * d' * u ≡ a * (d' * d))
cross x a d d' u h = omega (arith, ap (λ (z : ℕ). z * d') h)

pub compared : {x y : Float} → Single x → Single y → Compared x y
unfolding lt eq
compared {x = nan} h k = absurd h.finite
compared {x = inf s} h k = absurd h.finite
compared {x = fin s m e} {y = nan} h k = absurd k.finite
compared {x = fin s m e} {y = inf t} h k = absurd k.finite
compared {x = fin s m e} {y = fin t n d} h k =
    let x = m * up e * down d in
    let y = n * up d * down e in
    let a = magnitude (fin s m e) in
    let b = magnitude (fin t n d) in
    let u = 2 ^ 149 in
    let v = down e * down d in
    let v_pos : 0 < v = mul-pos (down_pos e) (down_pos d) in
    let p : x * u ≡ a * v = (cross (m * up e) a (down e) (down d) u (counted s m e h.fitting)).0 in
    let q : y * u ≡ b * v = (cross (n * up d) b (down d) (down e) u (counted t n d k.fitting)).1 in
    let l = lead_unit s t x y a b u v p q in
    let r = lead_unit t s y x b a u v q p in
    record {
      lt_is = Iff.trans (below_is s t x y) (lt_unit (lead s x t y) (lead t y s x) (lead s a t b) (lead t b s a) u v (pow_pos 149) v_pos l r);
      eq_is = Iff.trans (level_is s t x y) (eq_unit (lead s x t y) (lead t y s x) (lead s a t b) (lead t b s a) u v (pow_pos 149) v_pos l r);
    }

either : {C : Type 0} (a b : Bool) → T (a || b) → (T a → C) → (T b → C) → C
either true b t f g = f tt
either false b t f g = g t

pub le_parts : {x y : Float} → Single x → Single y → T (le x y) → ahead x + behind y ≤ ahead y + behind x
unfolding le
le_parts {x} {y} h k t = either (lt x y) (eq x y) t (λ l. le_of_lt ((compared h k).lt_is.0 l)) (λ l. le_of_eq ((compared h k).eq_is.0 l))

-- ---- a value against zero

pub negative_is : {x : Float} → Single x → T (lt x Bearing.zero) ↔ (0 < behind x)
negative_is h = Iff.trans (compared h single_zero).lt_is (omega (arith, parts h))

pub zero_is : {x : Float} → Single x → T (eq x Bearing.zero) ↔ (magnitude x ≡ 0)
zero_is h = Iff.trans (compared h single_zero).eq_is (omega (arith, parts h))

-- only the two zeros equal it
pub only_zeros : {x : Float} → Single x → T (eq x Bearing.zero) → x ≡ fin (is_sign_negative x) 0 (pos 0)
unfolding fits eq
only_zeros {x = nan} h t = absurd h.finite
only_zeros {x = inf s} h t = absurd h.finite
only_zeros {x = fin s zero (pos zero)} h t = refl
only_zeros {x = fin s zero (pos (suc k))} h t = absurd (omega (arith, eqb→eq (2 ^ suc k * 1) 1 h.fitting))
only_zeros {x = fin s zero (negsuc k)} h t = absurd (omega (arith, eqb→eq (1 * 2 ^ suc k) 1 h.fitting))
only_zeros {x = fin s (suc m) e} h t = absurd (omega (arith, eqb→eq (suc m * up e * 1) (0 * 1 * down e) (search and_l), up_pos e))

-- An angle a that is mirrored within a turn where x is negative, for an x on the side s of zero: it is mirrored as s says.
-- At x = 0, which lies on both sides and counts as not negative, a is its own mirror image.
pub mirrored : {x : Float} → Single x → (s : Bool) → cond s (ahead x) (behind x) ≡ 0 → (turn a : ℕ) → (magnitude x ≡ 0 → turn ≡ 2 * a)
    → cond (lt x Bearing.zero) (turn - a) a ≡ cond s (turn - a) a
mirrored {x} h s side turn a own_image = go (lt x Bearing.zero) s (negative_is h) side
  where
    go : (b s : Bool) → T b ↔ (0 < behind x) → cond s (ahead x) (behind x) ≡ 0 → cond b (turn - a) a ≡ cond s (turn - a) a
    go true true i z = refl
    go false false i z = refl
    go true false i z = absurd (omega (arith, i.0 tt))
    go false true i z = let nothing_behind : ¬ (0 < behind x) = i.1 in omega (arith, own_image (omega (arith, parts h)))
