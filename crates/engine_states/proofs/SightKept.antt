-- A fix that is a point keeps the sight within what number 12 allows (`seen_kept`): at most sixteen places, each a point, and a heading between
-- -360 and 360. The idea: every place afterwards is one from before or the new one, and a bearing is rounded from at most 360 degrees.
use Rattle.refusal.specs.declared.Refusal.{Refusal}
use Prim.Native.Nat.{ℕ, zero, suc, ◌+◌, ◌-◌, ◌*◌, ◌<◌, ◌≤◌}
use mathlib.Core.Path.{◌≡◌, refl, sym, ap}
use mathlib.Core.Bool.{Bool, true, false, ◌&&◌, ◌||◌, not, cond, true≢false}
use mathlib.Core.List.{List, ◌++◌}
use mathlib.Core.Logic.{⊎_elim}
use native.Mathlib.Omega.{arith}
use lib.Dec.{eqb, ltb, leb}
use lib.IntN.{pos}
use lib.Ieee.{Float, nan, inf, fin, binary32, span, climb, size, odd, units, up, down, round, neg, lt, eq, le, of_int}
use lib.Ieee.Fits.{down_pos}
use lib.ListN.{length, get_or, set, take, drop, length-append, length-take, length-drop, get_or-eq_default, get_or-append}
use lib.Seq.{set_out, get_or-set_same, get_or-set_other, get_or-take, get_or-drop}
use borrow.Author.Tests.{ltb-true, ltb-false, eqb-true, eqb-false, lt-ltb, le-leb}
use Rattle.std.specs.Prelude.{Option, Some, None, is_some, Ok, Err}
use Rattle.num.specs.Order.{is_finite, is_sign_negative}
use Rattle.angle.specs.Bearing as Bearing
use Rattle.angle.specs.Cosine.{lon_scale_um}
use Rattle.angle.proofs.Arc.{arc_most}
use Rattle.pack.specs.Grid.{is_point}
use Rattle.pack.proofs.Laws.{and_left, and_right}
use Rattle.cache.proofs.Below.{below_or, same_or}
use Rattle.geo.specs.Flat.{whole, is_heading, bearing_of, figure_of}
use Rattle.geo.specs.declared.Point.{Point}
use Rattle.geo.proofs.Settled.{Spans, round_spans}
use Rattle.cache.specs.Search.{lowest}
use Rattle.cache.proofs.SearchLaws.{lowest_none}
use Rattle.matcher.specs.declared.Heading.{Heading}
use Rattle.matcher.specs.State.{heading_ok}
use Rattle.engine.specs.Fixes.{no_point, place_at, shifted, push, moved_from, place_of, course_by, course_of, seen}
use Rattle.engine.specs.declared.Fix.{Fix}
use Rattle.engine.specs.declared.Places.{Places}
use Rattle.engine.specs.declared.Sight.{Sight}
use Rattle.engine.specs.State.{fix_ok, places_ok, sight_ok}

pub both : (a b : Bool) → a ≡ true → b ≡ true → (a && b) ≡ true
both true b e f = f
both false b e f = absurd (true≢false (sym e))

-- ---- a bearing is a heading

below_or_same : (x y : ℕ) (e : Bool) → x ≤ y → (e ≡ false → x ≡ y → ⊥) → (ltb x y || (e && true)) ≡ true
below_or_same x y e h other = go (ltb x y) e refl other
  where
    go : (l e : Bool) → ltb x y ≡ l → (e ≡ false → x ≡ y → ⊥) → (l || (e && true)) ≡ true
    go true e p other = refl
    go false true p other = refl
    go false false p other = let differ : x ≡ y → ⊥ = other refl in absurd (omega (arith, ltb-false x y p))

spans_heading : (x : Float) → Spans 360 360 x → is_heading x ≡ true
unfolding le lt eq neg of_int round size span climb units odd
spans_heading nan h = absurd h
spans_heading (inf s) h = absurd h
spans_heading (fin true m e) h =
    let x = m * up e * 1 in
    let y = 360 * down e in
    let some : ltb 0 (x + y) ≡ true = lt-ltb 0 (x + y) (omega (arith, down_pos e)) in
    both (le (neg (whole 360)) (fin true m e)) (le (fin true m e) (whole 360))
    (below_or_same x y (eqb y x) (omega arith) (λ q r. eqb-false y x q (sym r)))
    (rw some)
spans_heading (fin false m e) h =
    let x = m * up e * 1 in
    let y = 360 * down e in
    let some : ltb 0 (y + x) ≡ true = lt-ltb 0 (y + x) (omega (arith, down_pos e)) in
    both (le (neg (whole 360)) (fin false m e)) (le (fin false m e) (whole 360))
    (rw some)
    (below_or_same x y (eqb x y) (omega arith) (λ q r. eqb-false x y q r))

zero_heading : (x : Float) → eq x Bearing.zero ≡ true → is_heading x ≡ true
unfolding eq
zero_heading nan e = absurd (true≢false (sym e))
zero_heading (inf s) e = absurd (true≢false (sym e))
zero_heading (fin s m e) q =
    let none : m * up e * 1 ≡ 0 * down e = eqb-true (m * up e * 1) (0 * down e) (and_left (eqb (m * up e * 1) (0 * down e)) _ q) in
    spans_heading (fin s m e) (omega (arith, none))

quarter_most : (east north : ℕ) → Bearing.quarter east north ≤ 90 * Bearing.degree
unfolding Bearing.quarter
quarter_most east north = by (leb east north)
  where
    by : (t : Bool) → cond t (Bearing.arc (Bearing.ratio east north)) (90 * Bearing.degree - Bearing.arc (Bearing.ratio north east)) ≤ 90 * Bearing.degree
    by true = omega (arith, arc_most (Bearing.ratio east north))
    by false = omega arith

mirror_most : (t : Bool) (turn most a : ℕ) → turn ≤ most → a ≤ most → cond t (turn - a) a ≤ most
mirror_most true turn most a h k = omega arith
mirror_most false turn most a h k = k

angle_most : (east north : Float) → Bearing.angle east north ≤ 360 * Bearing.degree
angle_most east north =
    let q : Bearing.quarter (Bearing.magnitude east) (Bearing.magnitude north) ≤ 90 * Bearing.degree
    = quarter_most (Bearing.magnitude east) (Bearing.magnitude north) in
    mirror_most (lt east Bearing.zero) (360 * Bearing.degree) (360 * Bearing.degree) _ (omega arith)
    (mirror_most (lt north Bearing.zero) (180 * Bearing.degree) (360 * Bearing.degree) _ (omega arith) (omega (arith, q)))

degrees_heading : (east north : Float) → is_heading (Bearing.degrees east north) ≡ true
unfolding Bearing.degrees of_int
degrees_heading east north = by (eq east Bearing.zero) (is_sign_negative north) refl
  where
    by : (t s : Bool) → eq east Bearing.zero ≡ t
        → is_heading (cond t (cond s (of_int binary32 (pos 180)) east) (round binary32 false (Bearing.angle east north) Bearing.degree)) ≡ true
    by true true e = spans_heading (whole 180) (round_spans false 180 1 360 360 (omega arith) (omega arith) (omega arith))
    by true false e = zero_heading east e
    by false s e =
        spans_heading (round binary32 false (Bearing.angle east north) Bearing.degree)
        (round_spans false (Bearing.angle east north) Bearing.degree 360 360 (omega arith) (omega arith) (angle_most east north))

pub bearing_heading : (east north : Float) → is_heading (bearing_of east north) ≡ true
unfolding bearing_of Bearing.bearing of_int
bearing_heading east north = by (is_finite east && is_finite north)
  where
    by : (t : Bool) → is_heading (figure_of (cond t (Ok (Bearing.degrees east north)) (Err Refusal.OutOfRange))) ≡ true
    by true = degrees_heading east north
    by false = spans_heading (whole 0) (round_spans false 0 1 360 360 (omega arith) (omega arith) (omega arith))

-- ---- the places

IsPlace : Point → Type 0
IsPlace p = is_point p.lat p.lon ≡ true

-- whether or not the place is there
set_place : (v : List Point) (at i : ℕ) (here : Point) → IsPlace here → ((i ≡ at → ⊥) → IsPlace (get_or v i no_point))
    → IsPlace (get_or (set v at here) i no_point)
unfolding IsPlace
set_place v at i here new old =
    ⊎_elim
    (λ (e : i ≡ at). rw e
    (⊎_elim
    (λ (below : at < length v). rw (get_or-set_same v at here no_point below) new)
    (λ (past : length v ≤ at). rw (set_out v at here past, get_or-eq_default v no_point past))
    (below_or at (length v))))
    (λ (e : i ≡ at → ⊥). rw (get_or-set_other v at i here no_point e) (old e))
    (same_or i at)

-- of the first fifteen, each place takes the next one's
shifted_place : (h : Places) (i : ℕ) → i < 15 → IsPlace (place_at h (1 + i)) → IsPlace (place_at (shifted h) i)
unfolding shifted IsPlace
shifted_place h i below next =
    let v : List Point = h.v in
    let left : length (drop 1 (take 16 v)) ≡ length (take 16 v) - 1 = length-drop 1 (take 16 v) in
    let most = length-take 16 v in
    let right : length (drop 15 v) ≡ length v - 15 = length-drop 15 v in
    ⊎_elim
    (λ (k : i < length (drop 1 (take 16 v))).
    rw (get_or-append (drop 1 (take 16 v)) (drop 15 v) no_point i k, get_or-drop 1 (take 16 v) i no_point, get_or-take 16 v (1 + i) no_point (omega arith)) next)
    (λ (k : length (drop 1 (take 16 v)) ≤ i).
    rw (get_or-eq_default (drop 1 (take 16 v) ++ drop 15 v) no_point {n = i} (rw length-append (omega arith))))
    (below_or i (length (drop 1 (take 16 v))))

none_found : (p : ℕ → Bool) (n : ℕ) → ((i : ℕ) → i < n → p i ≡ false) → lowest p n ≡ None
unfolding lowest
none_found p zero none = refl
none_found p (suc n) none = rw (none_found p n (λ (i : ℕ) (h : i < n). none i (omega arith)), none n (omega arith))

places_from : (h : Places) → h.len ≤ 16 → ((i : ℕ) → i < h.len → IsPlace (place_at h i)) → places_ok h ≡ true
unfolding places_ok IsPlace
places_from h most all =
    let none : lowest (λ (i : ℕ). not (is_point (place_at h i).lat (place_at h i).lon)) h.len ≡ None
    = none_found _ h.len (λ (i : ℕ) (k : i < h.len). ap not (all i k)) in
    rw (le-leb h.len 16 most, none)

nothing_found : (x : Option ℕ) → not (is_some x) ≡ true → x ≡ None
nothing_found None e = refl
nothing_found (Some i) e = absurd (true≢false (sym e))

not-not : (t : Bool) → not t ≡ false → t ≡ true
not-not true e = refl
not-not false e = absurd (true≢false e)

module _ (h : Places) (ok : places_ok h ≡ true) where
  abbrev is_none : ℕ → Bool
  is_none i = not (is_point (place_at h i).lat (place_at h i).lon)

  place_is : (i : ℕ) → i < h.len → IsPlace (place_at h i)
  unfolding places_ok IsPlace
  place_is i k =
      let none : lowest is_none h.len ≡ None
      = nothing_found (lowest is_none h.len) (and_right (leb h.len 16) (not (is_some (lowest is_none h.len))) ok) in
      not-not (is_point (place_at h i).lat (place_at h i).lon) (lowest_none is_none h.len none i k)

  push_kept : (here : Point) → IsPlace here → places_ok (push h here) ≡ true
  unfolding push
  push_kept here new = by (ltb h.len 16) refl
    where
      by : (t : Bool) → ltb h.len 16 ≡ t
          → places_ok (cond t (record { v = set h.v h.len here; len = h.len + 1 }) (record { v = set (shifted h).v 15 here; len = 16 })) ≡ true
      by true e =
          places_from (record { v = set h.v h.len here; len = h.len + 1 }) (omega (arith, ltb-true h.len 16 e))
          (λ (i : ℕ) (k : i < h.len + 1). set_place h.v h.len i here new (λ (q : i ≡ h.len → ⊥). place_is i (omega (arith, q))))
      by false e =
          places_from (record { v = set (shifted h).v 15 here; len = 16 }) (omega arith)
          (λ (i : ℕ) (k : i < 16). set_place (shifted h).v 15 i here new
          (λ (q : i ≡ 15 → ⊥). shifted_place h i (omega (arith, q)) (place_is (1 + i) (omega (arith, q, ltb-false h.len 16 e)))))

-- ---- the sight

course_kept : (x : Option ℕ) (s : Sight) (fix : Fix) (lon_um : ℕ) → heading_ok s.heading ≡ true → heading_ok (course_by x s fix lon_um).heading ≡ true
course_kept None s fix lon_um ok = ok
course_kept (Some i) s fix lon_um ok = bearing_heading _ _

fresh_kept : (t : Bool) (d : Heading) → heading_ok d ≡ true → heading_ok (cond t Heading.Nothing d) ≡ true
fresh_kept true d ok = refl
fresh_kept false d ok = ok

pub seen_kept : (s : Sight) (fix : Fix) → sight_ok s ≡ true → is_point fix.lat fix.lon ≡ true → sight_ok (seen s fix) ≡ true
unfolding seen course_of IsPlace
seen_kept s fix ok here =
    let rest : (places_ok s.history && heading_ok s.heading) ≡ true = and_right (fix_ok s.fix) _ ok in
    let lon_um = lon_scale_um fix.lat in
    both (is_point fix.lat fix.lon) _ here
    (both (places_ok (push s.history (place_of fix))) _ (push_kept s.history (and_left (places_ok s.history) _ rest) (place_of fix) here)
    (fresh_kept (ltb 120000 (fix.at_ms - (course_of s fix).at_ms)) (course_of s fix).heading
    (course_kept (moved_from s.history (place_of fix) lon_um) s fix lon_um (and_right (places_ok s.history) _ rest))))
