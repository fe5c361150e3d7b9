-- The sign tests of the code are the definition: for points within reach of a grid, `meets` of their places is true exactly where the segments meet.
-- First over ℕ, by Plane.antt; then from places to points, since a common point stays one where all coordinates are counted from -360,000,000.
use Prim.Native.Nat.{ℕ, ◌+◌, ◌-◌, ◌*◌, ◌≤◌, ◌<◌, min, max}
use mathlib.Core.Path.{◌≡◌, refl, sym, ap, ◌∙◌}
use mathlib.Core.Bool.{Bool, true, false, ◌&&◌, ◌||◌, not, cond, true≢false}
use native.Mathlib.Omega.{arith}
use lib.Dec.{ltb}
use lib.IntN.{ℤ, pos, ◌+ℤ◌, ◌*ℤ◌}
use borrow.Author.Tests.{ltb-true, ltb-false, lt-ltb, le-ltb}
use Rattle.pack.proofs.Signed.{up, dn, add, mul, same}
use Rattle.geo.specs.declared.Point.{Point}
use Rattle.crossing.specs.Segments.{along, Meet}
use Rattle.crossing.specs.Sides.{raised, place_of, side, left, beside, apart, meets}
use Rattle.crossing.specs.declared.Place.{Place}
use Rattle.crossing.proofs.Reach.{raised_is, Near}
use Rattle.crossing.proofs.Plane.{Common, exchanged, no_gap_y, no_gap_x, not_left, not_right, found}

-- ---- the tests over ℕ

clear : (p q r s : ℕ) → (max p q < min r s → ⊥) → (max r s < min p q → ⊥) → apart p q r s ≡ false
unfolding apart
clear p q r s h k = go (ltb (max p q) (min r s)) (ltb (max r s) (min p q)) refl refl
  where
    go : (t u : Bool) → ltb (max p q) (min r s) ≡ t → ltb (max r s) (min p q) ≡ u → (t || u) ≡ false
    go true u d e = absurd (h (ltb-true (max p q) (min r s) d))
    go false true d e = absurd (k (ltb-true (max r s) (min p q) e))
    go false false d e = refl

clears : (p q r s : ℕ) → apart p q r s ≡ false → (min r s ≤ max p q) × (min p q ≤ max r s)
unfolding apart
clears p q r s h = go (ltb (max p q) (min r s)) (ltb (max r s) (min p q)) refl refl h
  where
    go : (t u : Bool) → ltb (max p q) (min r s) ≡ t → ltb (max r s) (min p q) ≡ u → (t || u) ≡ false → (min r s ≤ max p q) × (min p q ≤ max r s)
    go true u d e f = absurd (true≢false f)
    go false true d e f = absurd (true≢false f)
    go false false d e f = (ltb-false (max p q) (min r s) d, ltb-false (max r s) (min p q) e)

module _ (a b c e : Place) where
  astride : (side b a c < side a b c → side b a e < side a b e → ⊥) → (side a b c < side b a c → side a b e < side b a e → ⊥) → beside a b c e ≡ false
  unfolding beside
  astride h k = go (left a b c) (left a b e) (left b a c) (left b a e) refl refl refl refl
    where
      go :
          (t u v w : Bool) → left a b c ≡ t → left a b e ≡ u → left b a c ≡ v → left b a e ≡ w → cond t u (v && w) ≡ false
      go true true v w p q r s = absurd (h (ltb-true (side b a c) (side a b c) p) (ltb-true (side b a e) (side a b e) q))
      go true false v w p q r s = refl
      go false u true true p q r s = absurd (k (ltb-true (side a b c) (side b a c) r) (ltb-true (side a b e) (side b a e) s))
      go false u true false p q r s = refl
      go false u false w p q r s = refl

  astrides_left : beside a b c e ≡ false → side b a c < side a b c → side b a e < side a b e → ⊥
  unfolding beside
  astrides_left h p q = true≢false (sym (rw (lt-ltb (side b a c) (side a b c) p, lt-ltb (side b a e) (side a b e) q)) ∙ h)

  astrides_right : beside a b c e ≡ false → side a b c < side b a c → side a b e < side b a e → ⊥
  unfolding beside
  astrides_right h p q =
      let not_left : side a b c ≤ side b a c = omega arith in
      true≢false (sym (rw (le-ltb (side b a c) (side a b c) not_left, lt-ltb (side a b c) (side b a c) p, lt-ltb (side a b e) (side b a e) q)) ∙ h)

-- ---- exactly where there is a common point

pub common_meets : {a b c e : Place} → Common a b c e → meets a b c e ≡ true
unfolding meets
common_meets {a} {b} {c} {e} g =
    let back = exchanged {a = c} {b = e} {c = a} {e = b} g in
    rw (
      clear a.y b.y c.y e.y (no_gap_y g) (no_gap_y back),
      clear a.x b.x c.x e.x (no_gap_x g) (no_gap_x back),
      astride a b c e (not_left g) (not_right g),
      astride c e a b (not_left back) (not_right back),
    )

pub meets_common : (a b c e : Place) → meets a b c e ≡ true → Common a b c e
unfolding meets
meets_common a b c e h = go (apart a.y b.y c.y e.y) (apart a.x b.x c.x e.x) (beside a b c e) (beside c e a b) refl refl refl refl h
  where
    go :
        (t u v w : Bool) →
        apart a.y b.y c.y e.y ≡ t →
        apart a.x b.x c.x e.x ≡ u →
        beside a b c e ≡ v →
        beside c e a b ≡ w →
        (not t && (not u && (not v && not w))) ≡ true →
        Common a b c e
    go true u v w p q r s f = absurd (true≢false (sym f))
    go false true v w p q r s f = absurd (true≢false (sym f))
    go false false true w p q r s f = absurd (true≢false (sym f))
    go false false false true p q r s f = absurd (true≢false (sym f))
    go false false false false p q r s f =
        let (y_low, y_high) = clears a.y b.y c.y e.y p in
        let (x_low, x_high) = clears a.x b.x c.x e.x q in
        found a b c e (record {
          y_low = y_low;
          y_high = y_high;
          x_low = x_low;
          x_high = x_high;
          left = astrides_left a b c e r;
          right = astrides_right a b c e r;
          left' = astrides_left c e a b s;
          right' = astrides_right c e a b s;
        })

-- ---- from places to points

-- one coordinate, by weights
abbrev weighed : ℕ → ℕ → ℤ → ℤ → ℤ
weighed m i from to = from *ℤ pos m +ℤ to *ℤ pos i

module _ (m i n j : ℕ) (a b c e : ℤ) (whole : m + i ≡ n + j) where
  parts_of : (z : ℤ) (w : ℕ) → dn z ≤ 360000000 → w * raised z + dn (z *ℤ pos w) ≡ up (z *ℤ pos w) + 360000000 * w
  parts_of z w h = omega (arith, ap (λ (t : ℕ). t * w) (raised_is z h), mul z w)

  to_places :
      dn a ≤ 360000000 → dn b ≤ 360000000 → dn c ≤ 360000000 → dn e ≤ 360000000 →
      weighed m i a b ≡ weighed n j c e → m * raised a + i * raised b ≡ n * raised c + j * raised e
  to_places ha hb hc he h =
      omega (
        arith,
        parts_of a m ha,
        parts_of b i hb,
        parts_of c n hc,
        parts_of e j he,
        add (a *ℤ pos m) (b *ℤ pos i),
        add (c *ℤ pos n) (e *ℤ pos j),
        ap up h,
        ap dn h,
      )

  to_points :
      dn a ≤ 360000000 → dn b ≤ 360000000 → dn c ≤ 360000000 → dn e ≤ 360000000 →
      m * raised a + i * raised b ≡ n * raised c + j * raised e → weighed m i a b ≡ weighed n j c e
  to_points ha hb hc he h =
      same (weighed m i a b) (weighed n j c e)
      (omega (
        arith,
        parts_of a m ha,
        parts_of b i hb,
        parts_of c n hc,
        parts_of e j he,
        add (a *ℤ pos m) (b *ℤ pos i),
        add (c *ℤ pos n) (e *ℤ pos j),
      ))

module _ (a b c e : Point) (na : Near a) (nb : Near b) (nc : Near c) (ne : Near e) where
  meet_common : Meet a b c e → Common (place_of a) (place_of b) (place_of c) (place_of e)
  unfolding along
  meet_common g =
      let i_in = g.first in
      let j_in = g.second in
      let whole : (g.parts - g.i) + g.i ≡ (g.parts - g.j) + g.j = omega arith in
      record {
        m = g.parts - g.i;
        i = g.i;
        n = g.parts - g.j;
        j = g.j;
        some = omega (arith, g.some);
        whole = whole;
        lat = to_places (g.parts - g.i) g.i (g.parts - g.j) g.j a.lat b.lat c.lat e.lat whole na.lat nb.lat nc.lat ne.lat g.lat;
        lon = to_places (g.parts - g.i) g.i (g.parts - g.j) g.j a.lon b.lon c.lon e.lon whole na.lon nb.lon nc.lon ne.lon g.lon;
      }

  common_meet : Common (place_of a) (place_of b) (place_of c) (place_of e) → Meet a b c e
  unfolding along
  common_meet g =
      let left_i : (g.m + g.i) - g.i ≡ g.m = omega arith in
      let left_j : (g.m + g.i) - g.j ≡ g.n = omega (arith, g.whole) in
      record {
        parts = g.m + g.i;
        i = g.i;
        j = g.j;
        some = g.some;
        first = omega arith;
        second = omega (arith, g.whole);
        lat = rw (left_i, left_j) (to_points g.m g.i g.n g.j a.lat b.lat c.lat e.lat g.whole na.lat nb.lat nc.lat ne.lat g.lat);
        lon = rw (left_i, left_j) (to_points g.m g.i g.n g.j a.lon b.lon c.lon e.lon g.whole na.lon nb.lon nc.lon ne.lon g.lon);
      }

  -- the sign tests tell where two segments meet
  pub meets_meet : meets (place_of a) (place_of b) (place_of c) (place_of e) ≡ true → Meet a b c e
  meets_meet h = common_meet (meets_common (place_of a) (place_of b) (place_of c) (place_of e) h)

  pub meet_meets : Meet a b c e → meets (place_of a) (place_of b) (place_of c) (place_of e) ≡ true
  meet_meets g = common_meets (meet_common g)
