-- A turn between two headings lies above -180 and at most at 180, so two turns of each loop are enough.
-- The idea: rounding keeps a value within two whole numbers that it lies within, since single floats hold those. So each step's bounds are those of the exact sum.
use Prim.Native.Nat.{ℕ, zero, suc, ◌+◌, ◌-◌, ◌*◌, ◌^◌, ◌≤◌, ◌<◌}
use mathlib.Core.Path.{◌≡◌, refl, sym, ap, ◌∙◌}
use mathlib.Core.Bool.{Bool, true, false, ◌&&◌, ◌||◌, cond, true≢false}
use native.Mathlib.Nat.{mul-pos, mul-le-mul_right, le_of_mul-le-mul_right}
use native.Mathlib.Omega.{arith}
use lib.Dec.{T, leb, ltb, eqb, leb→le}
use lib.Ieee.{Float, nan, inf, fin, Format, binary32, prec, emax, low, up, down, odd, units, round, sum, add, sub, neg, lt, eq, le, of_int}
use lib.Ieee.Fits.{down_pos}
use lib.Ieee.Exact.{HasValue}
use lib.Ieee.Order.{round_mono}
use lib.Ieee.Back.{round_whole}
use borrow.Author.Tests.{ltb-true, ltb-false, leb-true, leb-false, eqb-true, eqb-false, lt-ltb, le-leb, lt-leb}
use Rattle.num.specs.Order.{is_sign_negative}
use Rattle.num.proofs.Nearest.{round-neg}
use Rattle.pack.proofs.Laws.{and_left, and_right}
use Rattle.geo.specs.Flat.{whole, lowered, raised, turn_of, is_heading}

-- ---- values within whole numbers

-- -a ≤ x ≤ b
abbrev pub Spans : ℕ → ℕ → Float → Type 0
Spans a b nan = ⊥
Spans a b (inf s) = ⊥
Spans a b (fin s m e) = m * up e ≤ cond s a b * down e

-- -180 < x ≤ 180
abbrev pub Inside : Float → Type 0
Inside nan = ⊥
Inside (inf s) = ⊥
Inside (fin true m e) = m * up e < 180 * down e
Inside (fin false m e) = m * up e ≤ 180 * down e

pub neg_spans : (x : Float) (a b : ℕ) → Spans a b x → Spans b a (neg x)
unfolding neg
neg_spans nan a b h = absurd h
neg_spans (inf s) a b h = absurd h
neg_spans (fin true m e) a b h = h
neg_spans (fin false m e) a b h = h

-- ---- the test `le` of two values of one sign

-- e says whether x and y are equal
below_or_same : (x y : ℕ) (e : Bool) → (e ≡ true → x ≡ y) → (e ≡ false → x ≡ y → ⊥) → (ltb x y || (e && true)) ≡ leb x y
below_or_same x y e same other = go (ltb x y) e refl same other
  where
    go : (l e : Bool) → ltb x y ≡ l → (e ≡ true → x ≡ y) → (e ≡ false → x ≡ y → ⊥) → (l || (e && true)) ≡ leb x y
    go true e p same other = sym (le-leb x y (omega (arith, ltb-true x y p)))
    go false true p same other = sym (le-leb x y (omega (arith, same refl)))
    go false false p same other = let differ : x ≡ y → ⊥ = other refl in sym (lt-leb x y (omega (arith, ltb-false x y p)))

ahead_le : (x y : ℕ) → (ltb x y || (eqb x y && true)) ≡ leb x y
ahead_le x y = below_or_same x y (eqb x y) (eqb-true x y) (eqb-false x y)

behind_le : (x y : ℕ) → (ltb y x || (eqb x y && true)) ≡ leb y x
behind_le x y = below_or_same y x (eqb x y) (λ q. sym (eqb-true x y q)) (λ q r. eqb-false x y q (sym r))

-- what is not behind zero isn't level with what is
not_level : (x y : ℕ) → 0 < y → (eqb x y && eqb x 0) ≡ false
not_level x y h = go (eqb x y) (eqb x 0) refl refl
  where
    go : (p q : Bool) → eqb x y ≡ p → eqb x 0 ≡ q → (p && q) ≡ false
    go true true e z = absurd (omega (arith, eqb-true x y e, eqb-true x 0 z))
    go true false e z = refl
    go false q e z = refl

-- ---- rounding keeps to whole bounds

units_sign : (f : Format) (s : Bool) (q k : ℕ) → is_sign_negative (units f s q k) ≡ s
unfolding units odd
units_sign f s q k = go (ltb (q * 2 ^ k) (2 ^ (low f + suc (emax f)))) q
  where
    go : (t : Bool) (n : ℕ) → is_sign_negative (cond t (odd (suc (prec f)) s n k (low f)) (inf s)) ≡ s
    go true zero = refl
    go true (suc n) = refl
    go false n = refl

round_sign : (f : Format) (s : Bool) (x d : ℕ) → is_sign_negative (round f s x d) ≡ s
unfolding round
round_sign f s x d = units_sign f s _ _

le_spans : (x y : Float) (a b : ℕ) → is_sign_negative x ≡ false → HasValue y false b 1 → T (le x y) → Spans a b x
unfolding le lt eq
le_spans x nan a b s v t = absurd v
le_spans x (inf r) a b s v t = absurd v
le_spans nan (fin r n d) a b s v t = absurd t
le_spans (inf true) (fin r n d) a b s v t = absurd (true≢false s)
le_spans (inf false) (fin r n d) a b s v t = absurd t
le_spans (fin true m e) (fin r n d) a b s v t = absurd (true≢false s)
le_spans (fin false m e) (fin true n d) a b s v t = absurd (true≢false v.0)
le_spans (fin false m e) (fin false n d) a b s v t =
    let h = leb→le (m * up e * down d) (n * up d * down e) (rw (ahead_le (m * up e * down d) (n * up d * down e)) at t) in
    le_of_mul-le-mul_right (omega (arith, h, ap (λ (z : ℕ). z * down e) v.1)) (down_pos d)

round_ahead : (x d a b : ℕ) → 0 < d → b ≤ 2 ^ 24 → x ≤ b * d → Spans a b (round binary32 false x d)
round_ahead x d a b pos small h =
    le_spans (round binary32 false x d) (round binary32 false b 1) a b (round_sign binary32 false x d) (round_whole binary32 false b small)
    (round_mono binary32 x d b 1 pos (omega arith) (omega arith))

pub round_spans : (s : Bool) (x d a b : ℕ) → 0 < d → cond s a b ≤ 2 ^ 24 → x ≤ cond s a b * d → Spans a b (round binary32 s x d)
round_spans false x d a b pos small h = round_ahead x d a b pos small h
round_spans true x d a b pos small h = rw (round-neg binary32 false x d) at (neg_spans (round binary32 false x d) b a (round_ahead x d b a pos small h))

-- ±x / d + ±y / d, rounded: what lies ahead of zero less what lies behind
pub sum_spans : (s t : Bool) (x y d a b : ℕ) → 0 < d → a ≤ 2 ^ 24 → b ≤ 2 ^ 24
    → cond s 0 x + cond t 0 y ≤ cond s x 0 + cond t y 0 + b * d
    → cond s x 0 + cond t y 0 ≤ cond s 0 x + cond t 0 y + a * d
    → Spans a b (sum binary32 s x t y d)
unfolding sum
sum_spans false false x y d a b pos f g ahead behind = round_spans false (x + y) d a b pos g (omega arith)
sum_spans true true x y d a b pos f g ahead behind = round_spans true (x + y) d a b pos f (omega arith)
sum_spans false true x y d a b pos f g ahead behind = go (ltb x y) refl
  where
    go : (l : Bool) → ltb x y ≡ l → Spans a b (cond l (round binary32 true (y - x) d) (round binary32 false (x - y) d))
    go true e = round_spans true (y - x) d a b pos f (omega arith)
    go false e = round_spans false (x - y) d a b pos g (omega arith)
sum_spans true false x y d a b pos f g ahead behind = go (ltb x y) (ltb y x) refl refl
  where
    go : (l r : Bool) → ltb x y ≡ l → ltb y x ≡ r → Spans a b (cond l (round binary32 false (y - x) d) (round binary32 r (x - y) d))
    go true r e q = round_spans false (y - x) d a b pos g (omega arith)
    go false true e q = round_spans true (x - y) d a b pos f (omega arith)
    go false false e q = round_spans false (x - y) d a b pos g (omega (arith, ltb-false y x q))

-- of two values within -a and b and within -c and d
parts_spans : (s t : Bool) (x y u a b c d : ℕ) → x ≤ cond s a b * u → y ≤ cond t c d * u
    → (cond s 0 x + cond t 0 y ≤ cond s x 0 + cond t y 0 + (b + d) * u) × (cond s x 0 + cond t y 0 ≤ cond s 0 x + cond t 0 y + (a + c) * u)
parts_spans false false x y u a b c d h k = (omega arith, omega arith)
parts_spans false true x y u a b c d h k = (omega arith, omega arith)
parts_spans true false x y u a b c d h k = (omega arith, omega arith)
parts_spans true true x y u a b c d h k = (omega arith, omega arith)

pub add_spans : (x y : Float) (a b c d : ℕ) → a + c ≤ 2 ^ 24 → b + d ≤ 2 ^ 24 → Spans a b x → Spans c d y → Spans (a + c) (b + d) (add binary32 x y)
unfolding add
add_spans nan y a b c d f g h k = absurd h
add_spans (inf s) y a b c d f g h k = absurd h
add_spans (fin s m e) nan a b c d f g h k = absurd k
add_spans (fin s m e) (inf t) a b c d f g h k = absurd k
add_spans (fin s m e) (fin t n i) a b c d f g h k =
    let x = m * up e * down i in
    let y = n * up i * down e in
    let u = down e * down i in
    let parts = parts_spans s t x y u a b c d (omega (arith, mul-le-mul_right (down i) h)) (omega (arith, mul-le-mul_right (down e) k)) in
    sum_spans s t x y u (a + c) (b + d) (mul-pos (down_pos e) (down_pos i)) f g parts.0 parts.1

-- ---- the steps of a turn

pub heading_spans : (x : Float) → is_heading x ≡ true → Spans 360 360 x
unfolding le lt eq neg of_int
heading_spans nan h = absurd (true≢false (sym h))
heading_spans (inf true) h = absurd (true≢false (sym h))
heading_spans (inf false) h = absurd (true≢false (sym h))
heading_spans (fin true m e) h =
    let x = m * up e * 1 in
    let y = 360 * down e in
    omega (arith, leb-true x y (sym (behind_le y x) ∙ and_left (le (neg (whole 360)) (fin true m e)) (le (fin true m e) (whole 360)) h))
heading_spans (fin false m e) h =
    let x = m * up e * 1 in
    let y = 360 * down e in
    omega (arith, leb-true x y (sym (ahead_le x y) ∙ and_right (le (neg (whole 360)) (fin false m e)) (le (fin false m e) (whole 360)) h))

pub lowered_spans : (x : Float) (b h : ℕ) → b ≤ h + 360 → 180 ≤ h → h ≤ 2 ^ 24 → Spans 720 b x → Spans 720 h (lowered x)
unfolding lt sub add neg of_int
lowered_spans nan b h near some small k = absurd k
lowered_spans (inf s) b h near some small k = absurd k
lowered_spans (fin true m e) b h near some small k = k
lowered_spans (fin false m e) b h near some small k = go (lt (whole 180) (fin false m e)) refl
  where
    x : ℕ
    x = m * up e * 1

    u : ℕ
    u = down e

    go : (t : Bool) → ltb (180 * u) x ≡ t → Spans 720 h (cond t (sum binary32 false x true (360 * u) (u * 1)) (fin false m e))
    go true q =
        let above = ltb-true (180 * u) x q in
        let far = mul-le-mul_right u near in
        sum_spans false true x (360 * u) (u * 1) 720 h (omega (arith, down_pos e)) (omega arith) small (omega arith) (omega arith)
    go false q = omega (arith, ltb-false (180 * u) x q, mul-le-mul_right u some)

-- a value is raised from -180 or below, or lies inside
raised_either : (P : Float → Type 0) (x : Float) (a : ℕ) → Spans (a + 360) 180 x → a ≤ 2 ^ 24
    → ((y : Float) → Spans a 180 y → P y)
    → ((y : Float) → Inside y → P y)
    → P (raised x)
unfolding le lt eq add neg of_int
raised_either P nan a k small up_to_lem inside = absurd k
raised_either P (inf s) a k small up_to_lem inside = absurd k
raised_either P (fin false m e) a k small up_to_lem inside =
    rw (not_level (m * up e * 1) (180 * down e) (omega (arith, down_pos e))) (inside (fin false m e) k)
raised_either P (fin true m e) a k small up_to_lem inside = go (le (fin true m e) (neg (whole 180))) refl
  where
    x : ℕ
    x = m * up e * 1

    u : ℕ
    u = down e

    go : (t : Bool) → (ltb (180 * u) x || (eqb x (180 * u) && true)) ≡ t → P (cond t (sum binary32 true x false (360 * u) (u * 1)) (fin true m e))
    go true q =
        let beneath = leb-true (180 * u) x (sym (behind_le x (180 * u)) ∙ q) in
        up_to_lem (sum binary32 true x false (360 * u) (u * 1))
        (sum_spans true false x (360 * u) (u * 1) a 180 (omega (arith, down_pos e)) small (omega arith) (omega arith) (omega arith))
    go false q = inside (fin true m e) (omega (arith, leb-false (180 * u) x (sym (behind_le x (180 * u)) ∙ q)))

-- ---- turns

inside_settled : (x : Float) → Inside x → (lt (neg (whole 180)) x ≡ true) × (le x (whole 180) ≡ true)
unfolding le lt eq neg of_int
inside_settled nan h = absurd h
inside_settled (inf s) h = absurd h
inside_settled (fin true m e) h =
    let some = lt-ltb 0 (m * up e * 1 + 180 * down e) (omega (arith, down_pos e)) in
    (lt-ltb (m * up e * 1) (180 * down e) (omega arith), rw some)
inside_settled (fin false m e) h =
    (lt-ltb 0 (180 * down e + m * up e * 1) (omega (arith, down_pos e)), ahead_le (m * up e * 1) (180 * down e) ∙ le-leb (m * up e * 1) (180 * down e) (omega arith))

spans_inside : (x : Float) → Spans 0 180 x → Inside x
spans_inside nan h = absurd h
spans_inside (inf s) h = absurd h
spans_inside (fin true m e) h = omega (arith, down_pos e)
spans_inside (fin false m e) h = h

inside_spans : (x : Float) → Inside x → Spans 360 180 x
inside_spans nan h = absurd h
inside_spans (inf s) h = absurd h
inside_spans (fin true m e) h = omega (arith, down_pos e)
inside_spans (fin false m e) h = h

pub turn_settled : (from to : Float) → is_heading from ≡ true → is_heading to ≡ true
    → (lt (neg (whole 180)) (turn_of from to) ≡ true) × (le (turn_of from to) (whole 180) ≡ true)
unfolding turn_of sub
turn_settled from to f t =
    let d = sub binary32 to from in
    let d_spans : Spans 720 720 d =
    add_spans to (neg from) 360 360 360 360 (omega arith) (omega arith) (heading_spans to t) (neg_spans from 360 360 (heading_spans from f)) in
    let once = lowered_spans d 720 360 (omega arith) (omega arith) (omega arith) d_spans in
    let twice = lowered_spans (lowered d) 360 180 (omega arith) (omega arith) (omega arith) once in
    let raised_once : Spans 360 180 (raised (lowered (lowered d))) =
    raised_either (λ (y : Float). Spans 360 180 y) (lowered (lowered d)) 360 twice (omega arith) (λ y h. h) inside_spans in
    let raised_twice : Inside (turn_of from to) =
    raised_either Inside (raised (lowered (lowered d))) 0 raised_once (omega arith) spans_inside (λ y h. h) in
    inside_settled (turn_of from to) raised_twice
