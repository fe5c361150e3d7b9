-- Equal lowest costs are a fork: where the second costs what the best does (`equal_is_fork`), and where two choices of a junction have the lowest
-- cost (`two_lowest_fork`). The idea: the loop over the choices. Once the first of the two is passed, the best costs no more than it. Once both
-- are, the second costs no more either, and nothing costs less. So the margin is a zero of either sign, below FORK_MARGIN.
use Prim.Native.Nat.{ℕ, zero, suc, ◌+◌, ◌-◌, ◌*◌, ◌<◌, ◌≤◌}
use mathlib.Core.Path.{◌≡◌, refl, sym, ap, subst, ◌∙◌}
use mathlib.Core.Bool.{Bool, true, false, not, ◌&&◌, ◌||◌, cond, true≢false}
use native.Mathlib.Nat.{mul-pos, mul-le-mul_right, le_of_mul-le-mul_right}
use native.Mathlib.Omega.{arith}
use lib.Dec.{ltb, eqb}
use lib.Ieee.{Float, nan, inf, fin, binary32, up, down, below, level, is_nan, round, sum, add, sub, neg, lt, eq, le, of_int}
use lib.Ieee.Fits.{down_pos}
use lib.Ieee.Scale.{round_same}
use lib.IntN.{pos}
use lib.Pow.{pow_pos}
use borrow.Author.Tests.{ltb-true, ltb-false, eqb-true, le-ltb}
use Rattle.num.specs.Fold.{up_to}
use Rattle.num.specs.Order.{min, is_finite, is_sign_negative}
use Rattle.geo.specs.Flat.{whole}
use Rattle.geo.proofs.FractionLaws.{not_less}
use Rattle.predict.specs.declared.Choices.{Choices}
use Rattle.predict.specs.declared.choose.Picked.{Picked}
use Rattle.predict.specs.Choose.{choice_in, pick_step, pick_to, pick}
use Rattle.predict.specs.declared.End.TheVariants as End
use Rattle.predict.specs.Decide.{stop, decide_by, decide}

-- ---- the order of floats, by what each is above 0 and below it

abbrev ahead : Bool → ℕ → ℕ
ahead true n = 0
ahead false n = n

abbrev behind : Bool → ℕ → ℕ
behind true n = n
behind false n = 0

-- ±m * d is at most ±n * e
abbrev AtMost : Bool → ℕ → ℕ → Bool → ℕ → ℕ → Type 0
AtMost s m d t n e = ahead s m * d + behind t n * e ≤ ahead t n * e + behind s m * d

-- the flag says that the two are the same
less_or_same : (a b : ℕ) (same : Bool) → (same ≡ true → a ≡ b) → (ltb a b || (same && true)) ≡ true → a ≤ b
less_or_same a b same is h = by (ltb a b) same refl is h
  where
    by : (l k : Bool) → ltb a b ≡ l → (k ≡ true → a ≡ b) → (l || (k && true)) ≡ true → a ≤ b
    by true k e is h = omega (arith, ltb-true a b e)
    by false true e is h = omega (arith, is refl)
    by false false e is h = absurd (true≢false (sym h))

both_zero : (a b : ℕ) → (eqb a b && eqb a 0) ≡ true → a + b ≤ 0
both_zero a b h = by (eqb a b) (eqb a 0) refl refl h
  where
    by : (l k : Bool) → eqb a b ≡ l → eqb a 0 ≡ k → (l && k) ≡ true → a + b ≤ 0
    by true true e f h = omega (arith, eqb-true a b e, eqb-true a 0 f)
    by true false e f h = absurd (true≢false (sym h))
    by false k e f h = absurd (true≢false (sym h))

at_most : (s : Bool) (m d : ℕ) (t : Bool) (n e : ℕ) → (below s (m * d) t (n * e) || level s (m * d) t (n * e)) ≡ true → AtMost s m d t n e
at_most false m d false n e h = omega (arith, less_or_same (m * d) (n * e) (eqb (m * d) (n * e)) (eqb-true (m * d) (n * e)) h)
at_most true m d true n e h = omega (arith, less_or_same (n * e) (m * d) (eqb (m * d) (n * e)) (λ q. sym (eqb-true (m * d) (n * e) q)) h)
at_most true m d false n e h = omega arith
at_most false m d true n e h = omega (arith, both_zero (m * d) (n * e) h)

no_less : (s : Bool) (m d : ℕ) (t : Bool) (n e : ℕ) → AtMost s m d t n e → below t (n * e) s (m * d) ≡ false
no_less false m d false n e h = le-ltb (n * e) (m * d) (omega arith)
no_less true m d true n e h = le-ltb (m * d) (n * e) (omega arith)
no_less false m d true n e h = le-ltb 0 (n * e + m * d) (omega arith)
no_less true m d false n e h = refl

-- fractions with the denominators x, y and z
cross : (a a' b b' c c' x y z : ℕ) → 0 < y → a * y + b' * x ≤ b * x + a' * y → b * z + c' * y ≤ c * y + b' * z → a * z + c' * x ≤ c * x + a' * z
cross a a' b b' c c' x y z some h k =
    le_of_mul-le-mul_right {m = a * z + c' * x} {n = c * x + a' * z} {k = y} (omega (arith, mul-le-mul_right z h, mul-le-mul_right x k)) some

le_trans : (a x b : Float) → is_finite x ≡ true → le a x ≡ true → le x b ≡ true → le a b ≡ true
unfolding is_nan lt eq le
le_trans a nan b f h k = absurd (true≢false (sym f))
le_trans a (inf s) b f h k = absurd (true≢false (sym f))
le_trans nan (fin t n d) b f h k = absurd (true≢false (sym h))
le_trans (inf false) (fin t n d) b f h k = absurd (true≢false (sym h))
le_trans (inf true) (fin t n d) nan f h k = absurd (true≢false (sym k))
le_trans (inf true) (fin t n d) (inf true) f h k = refl
le_trans (inf true) (fin t n d) (inf false) f h k = refl
le_trans (inf true) (fin t n d) (fin u q g) f h k = refl
le_trans (fin s m e) (fin t n d) nan f h k = absurd (true≢false (sym k))
le_trans (fin s m e) (fin t n d) (inf true) f h k = absurd (true≢false (sym k))
le_trans (fin s m e) (fin t n d) (inf false) f h k = refl
le_trans (fin s m e) (fin t n d) (fin u q g) f h k =
    not_less (fin u q g) (fin s m e) refl refl
    (no_less s (m * up e) (down g) u (q * up g) (down e)
    (cross (ahead s (m * up e)) (behind s (m * up e)) (ahead t (n * up d)) (behind t (n * up d)) (ahead u (q * up g)) (behind u (q * up g))
    (down e) (down d) (down g) (down_pos d)
    (at_most s (m * up e) (down d) t (n * up d) (down e) h)
    (at_most t (n * up d) (down g) u (q * up g) (down d) k)))

le_self : (x : Float) → is_nan x ≡ false → le x x ≡ true
unfolding is_nan lt eq le
le_self nan f = absurd (true≢false f)
le_self (inf true) f = refl
le_self (inf false) f = refl
le_self (fin s m e) f = not_less (fin s m e) (fin s m e) refl refl (no_less s (m * up e) (down e) s (m * up e) (down e) (omega arith))

less_is_most : (x y : Float) → lt x y ≡ true → le x y ≡ true
unfolding le
less_is_most x y h = rw h

-- what is at least another is a number
number_above : (x y : Float) → le x y ≡ true → is_nan y ≡ false
unfolding is_nan lt eq le
number_above nan y h = absurd (true≢false (sym h))
number_above (inf s) nan h = absurd (true≢false (sym h))
number_above (inf s) (inf t) h = refl
number_above (inf s) (fin t n d) h = refl
number_above (fin s m e) nan h = absurd (true≢false (sym h))
number_above (fin s m e) (inf t) h = refl
number_above (fin s m e) (fin t n d) h = refl

-- what equals a finite one is finite
finite_between : (x y : Float) → is_finite x ≡ true → le x y ≡ true → le y x ≡ true → is_finite y ≡ true
unfolding lt eq le
finite_between nan y f h k = absurd (true≢false (sym f))
finite_between (inf s) y f h k = absurd (true≢false (sym f))
finite_between (fin s m e) nan f h k = absurd (true≢false (sym h))
finite_between (fin s m e) (inf true) f h k = absurd (true≢false (sym h))
finite_between (fin s m e) (inf false) f h k = absurd (true≢false (sym k))
finite_between (fin s m e) (fin t n d) f h k = refl

finite_number : (x : Float) → is_finite x ≡ true → is_nan x ≡ false
unfolding is_nan
finite_number nan f = absurd (true≢false (sym f))
finite_number (inf s) f = refl
finite_number (fin s m e) f = refl

le_top : (x : Float) → is_finite x ≡ true → le x (inf false) ≡ true
unfolding lt le
le_top nan f = absurd (true≢false (sym f))
le_top (inf s) f = absurd (true≢false (sym f))
le_top (fin s m e) f = refl

-- ---- the smaller of two

min_above : (x a b : Float) → le x a ≡ true → le x b ≡ true → le x (min a b) ≡ true
min_above x a b h k = by (is_nan a) (lt b a)
  where
    by : (none less : Bool) → le x (cond none b (cond less b a)) ≡ true
    by true less = k
    by false true = k
    by false false = h

min_below : (a b : Float) → is_nan a ≡ false → is_nan b ≡ false → (le (min a b) a ≡ true) × (le (min a b) b ≡ true)
min_below a b f g = rw f (by (lt b a) refl)
  where
    by : (less : Bool) → lt b a ≡ less → (le (cond less b a) a ≡ true) × (le (cond less b a) b ≡ true)
    by true e = (less_is_most b a e, le_self b g)
    by false e = (le_self a f, not_less b a g f e)

-- ---- the margin

round_zero : (s : Bool) (c : ℕ) → 0 < c → round binary32 s 0 c ≡ fin s 0 (pos 0)
round_zero s c h = round_same binary32 s 0 c 0 1 h (pow_pos 0) (omega arith) ∙ (unfold round in refl)

not_below : (n : ℕ) → ltb n n ≡ false
not_below n = le-ltb n n (omega arith)

none_left : (n : ℕ) → n - n ≡ 0
none_left n = omega arith

sum_zero : (s : Bool) (a b c : ℕ) → 0 < c → a ≡ b → sum binary32 s a (not s) b c ≡ fin false 0 (pos 0)
unfolding sum
sum_zero true a b c h e = rw (e, not_below, none_left) (round_zero false c h)
sum_zero false a b c h e = rw (e, not_below, none_left) (round_zero false c h)

sum_none : (s : Bool) (a b c : ℕ) → 0 < c → a + b ≡ 0 → sum binary32 s a s b c ≡ fin s 0 (pos 0)
unfolding sum
sum_none true a b c h e = rw e (round_zero true c h)
sum_none false a b c h e = rw e (round_zero false c h)

apart : (s : Bool) (m d : ℕ) (t : Bool) (n e c : ℕ) → 0 < c → AtMost s m d t n e → AtMost t n e s m d
    → sum binary32 s (m * d) (not t) (n * e) c ≡ fin (s && not t) 0 (pos 0)
apart true m d true n e c p h k = sum_zero true (m * d) (n * e) c p (omega arith)
apart false m d false n e c p h k = sum_zero false (m * d) (n * e) c p (omega arith)
apart true m d false n e c p h k = sum_none true (m * d) (n * e) c p (omega arith)
apart false m d true n e c p h k = sum_none false (m * d) (n * e) c p (omega arith)

-- the difference of two equal values is a zero: -0 for -0 less +0, and else +0
zero_apart : (a b : Float) → is_finite a ≡ true → le a b ≡ true → le b a ≡ true → sub binary32 a b ≡ fin (is_sign_negative a && not (is_sign_negative b)) 0 (pos 0)
unfolding sub add neg lt eq le
zero_apart nan b f h k = absurd (true≢false (sym f))
zero_apart (inf s) b f h k = absurd (true≢false (sym f))
zero_apart (fin s m e) nan f h k = absurd (true≢false (sym h))
zero_apart (fin s m e) (inf true) f h k = absurd (true≢false (sym h))
zero_apart (fin s m e) (inf false) f h k = absurd (true≢false (sym k))
zero_apart (fin s m e) (fin t n d) f h k =
    apart s (m * up e) (down d) t (n * up d) (down e) (down e * down d) (mul-pos (down_pos e) (down_pos d))
    (at_most s (m * up e) (down d) t (n * up d) (down e) h)
    (at_most t (n * up d) (down e) s (m * up e) (down d) k)

-- a zero is below FORK_MARGIN
zero_below : (s : Bool) → lt (fin s 0 (pos 0)) (whole 1) ≡ true
unfolding lt of_int
zero_below true = refl
zero_below false = refl

level_is_fork : (p : Picked) (blocked : Bool) (confidence : Float) → p.any ≡ true → is_finite p.second ≡ true → le p.second p.best.cost ≡ true
    → le p.best.cost p.second ≡ true → decide_by p blocked confidence ≡ stop p End.Fork confidence
level_is_fork p blocked confidence any finite h k =
    rw (any, finite, zero_apart p.second p.best.cost finite h k, zero_below (is_sign_negative p.second && not (is_sign_negative p.best.cost)))

-- where the second costs what the best does, the road is forked
pub equal_is_fork : (p : Picked) (blocked : Bool) (confidence : Float) → p.any ≡ true → p.second ≡ p.best.cost → is_finite p.second ≡ true
    → decide_by p blocked confidence ≡ stop p End.Fork confidence
equal_is_fork p blocked confidence any equal finite =
    let self : le p.second p.second ≡ true = le_self p.second (finite_number p.second finite) in
    level_is_fork p blocked confidence any finite (subst (λ (x : Float). le p.second x ≡ true) equal self) (subst (λ (x : Float). le x p.second ≡ true) equal self)

-- ---- two choices of the lowest cost

abbrev pub cost_at : Choices → ℕ → Float
cost_at c k = (choice_in c k).cost

-- after the first n choices, where x is the lowest cost, and the choices i and j have it
record Passed (x : Float) (i j n : ℕ) (p : Picked) : Type 0 where
  pub second : le x p.second ≡ true
  pub best : p.any ≡ true → le x p.best.cost ≡ true
  pub one : i < n → (p.any ≡ true) × (le p.best.cost x ≡ true)
  pub two : j < n → le p.second x ≡ true

-- k is passed, or it is n
reached : {P : Type 0} (k n : ℕ) → k < suc n → (k < n → P) → (k ≡ n → P) → P
reached {P} k n l passed now = by (ltb k n) refl
  where
    by : (b : Bool) → ltb k n ≡ b → P
    by true e = passed (ltb-true k n e)
    by false e = now (omega (arith, ltb-false k n e))

module _ (c : Choices) (i j : ℕ) (before : i < j) (within : j < c.len) (finite : is_finite (cost_at c i) ≡ true) (same : cost_at c j ≡ cost_at c i)
    (lowest : (k : ℕ) → k < c.len → le (cost_at c i) (cost_at c k) ≡ true) where
  abbrev x : Float
  x = cost_at c i

  self : le x x ≡ true
  self = le_self x (finite_number x finite)

  here : (n : ℕ) → i ≡ n → le (cost_at c n) x ≡ true
  here n e = subst (λ (m : ℕ). le (cost_at c m) x ≡ true) e self

  -- past the last choice
  beyond : (n : ℕ) (p : Picked) → Passed x i j n p → c.len ≤ n → Passed x i j (suc n) p
  beyond n p h out =
      record { second = h.second; best = h.best; one = λ (l : i < suc n). h.one (omega arith); two = λ (l : j < suc n). h.two (omega arith) }

  -- the first choice
  opened : (n : ℕ) (p : Picked) → Passed x i j n p → n < c.len → p.any ≡ false
      → Passed x i j (suc n) (record { any = true; best = choice_in c n; second = p.second })
  opened n p h inner none =
      record {
        second = h.second;
        best = λ (e : true ≡ true). lowest n inner;
        one = λ (l : i < suc n). (refl, reached i n l (λ (b : i < n). absurd (never b)) (here n));
        two = λ (l : j < suc n). absurd (never (omega arith));
      }
    where
      never : i < n → ⊥
      never b = true≢false (sym (h.one b).0 ∙ none)

  -- the best stays
  stays : (n : ℕ) (p : Picked) → Passed x i j n p → n < c.len → p.any ≡ true → le p.best.cost (cost_at c n) ≡ true
      → Passed x i j (suc n) (record { any = true; best = p.best; second = min p.second (cost_at c n) })
  stays n p h inner any less =
      record {
        second = min_above x p.second (cost_at c n) h.second (lowest n inner);
        best = λ (e : true ≡ true). h.best any;
        one = λ (l : i < suc n). (refl, reached i n l (λ (b : i < n). (h.one b).1) (λ (e : i ≡ n). subst (λ (m : ℕ). le p.best.cost (cost_at c m) ≡ true) (sym e) less));
        two = λ (l : j < suc n). reached j n l old new;
      }
    where
      low : (le (min p.second (cost_at c n)) p.second ≡ true) × (le (min p.second (cost_at c n)) (cost_at c n) ≡ true)
      low = min_below p.second (cost_at c n) (number_above x p.second h.second) (number_above x (cost_at c n) (lowest n inner))

      old : j < n → le (min p.second (cost_at c n)) x ≡ true
      old b = le_trans (min p.second (cost_at c n)) p.second x (finite_between x p.second finite h.second (h.two b)) low.0 (h.two b)

      new : j ≡ n → le (min p.second (cost_at c n)) x ≡ true
      new e = subst (λ (y : Float). le (min p.second (cost_at c n)) y ≡ true) (ap (cost_at c) (sym e) ∙ same) low.1

  -- a lower one takes its place, which can't be after i
  lower : (n : ℕ) (p : Picked) → Passed x i j n p → n < c.len → p.any ≡ true → le p.best.cost (cost_at c n) ≡ false
      → Passed x i j (suc n) (record { any = true; best = choice_in c n; second = min p.second p.best.cost })
  lower n p h inner any less =
      record {
        second = min_above x p.second p.best.cost h.second (h.best any);
        best = λ (e : true ≡ true). lowest n inner;
        one = λ (l : i < suc n). (refl, reached i n l (λ (b : i < n). absurd (never b)) (here n));
        two = λ (l : j < suc n). absurd (never (omega arith));
      }
    where
      never : i < n → ⊥
      never b = true≢false (sym (le_trans p.best.cost x (cost_at c n) finite (h.one b).1 (lowest n inner)) ∙ less)

  step : (n : ℕ) (p : Picked) → Passed x i j n p → Passed x i j (suc n) (pick_step p c.len n (choice_in c n))
  unfolding pick_step
  step n p h = by (ltb n c.len) p.any (le p.best.cost (cost_at c n)) refl refl refl
    where
      by : (inner any less : Bool) → ltb n c.len ≡ inner → p.any ≡ any → le p.best.cost (cost_at c n) ≡ less
          → Passed x i j (suc n)
          (cond inner
          (cond any
          (cond less (record { any = true; best = p.best; second = min p.second (cost_at c n) })
          (record { any = true; best = choice_in c n; second = min p.second p.best.cost }))
          (record { any = true; best = choice_in c n; second = p.second }))
          p)
      by false any less e f g = beyond n p h (ltb-false n c.len e)
      by true false less e f g = opened n p h (ltb-true n c.len e) f
      by true true true e f g = stays n p h (ltb-true n c.len e) f g
      by true true false e f g = lower n p h (ltb-true n c.len e) f g

  passed : (n : ℕ) → Passed x i j n (pick_to c n)
  unfolding pick_to up_to
  passed zero =
      record {
        second = le_top x finite;
        best = λ (e : false ≡ true). absurd (true≢false (sym e));
        one = λ (l : i < 0). absurd (omega arith);
        two = λ (l : j < 0). absurd (omega arith);
      }
  passed (suc n) = step n (pick_to c n) (passed n)

  picked_fork : c.len ≤ 12 → (blocked : Bool) (confidence : Float) → decide c blocked confidence ≡ stop (pick c) End.Fork confidence
  unfolding decide
  picked_fork most blocked confidence =
      let h : Passed x i j 12 (pick c) = passed 12 in
      let first : ((pick c).any ≡ true) × (le (pick c).best.cost x ≡ true) = h.one (omega arith) in
      let next : le (pick c).second x ≡ true = h.two (omega arith) in
      level_is_fork (pick c) blocked confidence first.0 (finite_between x (pick c).second finite h.second next)
      (le_trans (pick c).second x (pick c).best.cost finite next (h.best first.0))
      (le_trans (pick c).best.cost x (pick c).second finite first.1 h.second)

-- where two choices have the lowest cost, the road is forked
pub two_lowest_fork : (c : Choices) (i j : ℕ) → i < j → j < c.len → c.len ≤ 12 → is_finite (cost_at c i) ≡ true → cost_at c j ≡ cost_at c i
    → ((k : ℕ) → k < c.len → le (cost_at c i) (cost_at c k) ≡ true) → (blocked : Bool) (confidence : Float)
    → decide c blocked confidence ≡ stop (pick c) End.Fork confidence
two_lowest_fork c i j before within most finite same lowest = picked_fork c i j before within finite same lowest most
