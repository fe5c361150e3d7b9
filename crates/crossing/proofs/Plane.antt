-- Two closed segments in the plane, over ℕ: they have a common point exactly when nothing separates them. What can separate them is a gap in one
-- coordinate, or the line through one with the other strictly on one side. Below: what a common point is, and its symmetries; a common point rules every
-- separation out; no separation and lines that cross give the common point by weights that are areas; no separation and one line for both, by lengths.
use Prim.Native.Nat.{ℕ, ◌+◌, ◌-◌, ◌*◌, ◌≤◌, ◌<◌, min, max}
use mathlib.Core.Path.{◌≡◌, refl, sym, ap, ◌∙◌}
use mathlib.Core.Bool.{Bool, true, false}
use native.Mathlib.Nat.{mul-le-mul_right}
use native.Mathlib.Omega.{arith}
use lib.Dec.{ltb}
use borrow.Author.Tests.{ltb-true, ltb-false}
use Rattle.crossing.specs.Sides.{side}
use Rattle.crossing.specs.declared.Place.{Place}

-- ---- a common point, by weights: m on a and i on b give the point that n on c and j on e give

pub record Common (a b c e : Place) : Type 0 where
  pub m : ℕ
  pub i : ℕ
  pub n : ℕ
  pub j : ℕ
  pub some : 0 < m + i
  pub whole : m + i ≡ n + j
  pub lat : m * a.y + i * b.y ≡ n * c.y + j * e.y
  pub lon : m * a.x + i * b.x ≡ n * c.x + j * e.x

pub swapped : {a b c e : Place} → Common a b e c → Common a b c e
swapped g = record { m = g.m; i = g.i; n = g.j; j = g.n; some = g.some; whole = omega arith; lat = omega arith; lon = omega arith }

pub exchanged : {a b c e : Place} → Common c e a b → Common a b c e
exchanged g = record { m = g.n; i = g.j; n = g.m; j = g.i; some = omega arith; whole = sym g.whole; lat = sym g.lat; lon = sym g.lon }

abbrev flip : Place → Place
flip p = record { y = p.x; x = p.y }

flipped : {a b c e : Place} → Common (flip a) (flip b) (flip c) (flip e) → Common a b c e
flipped g = record { m = g.m; i = g.i; n = g.n; j = g.j; some = g.some; whole = g.whole; lat = g.lon; lon = g.lat }

-- ---- a common point rules out a gap, and a line with both ends strictly on one side

-- weighted sums of p and q and of r and s, all of r and s above p and q
gap : (m i n j p q r s : ℕ) → 0 < m + i → m + i ≡ n + j → m * p + i * q ≡ n * r + j * s → max p q < min r s → ⊥
gap m i n j p q r s some whole same h =
    let top = max p q in
    let p_top : p ≤ top = omega arith in
    let q_top : q ≤ top = omega arith in
    let r_top : top + 1 ≤ r = omega arith in
    let s_top : top + 1 ≤ s = omega arith in
    sum top (mul-le-mul_right m p_top) (mul-le-mul_right i q_top) (mul-le-mul_right n r_top) (mul-le-mul_right j s_top)
  where
    sum : (top : ℕ) → p * m ≤ top * m → q * i ≤ top * i → (top + 1) * n ≤ r * n → (top + 1) * j ≤ s * j → ⊥
    sum top hp hq hr hs = omega (arith, ap (λ t. t * top) whole)

-- ---- the areas

module _ (a b c e : Place) where
  -- the four areas sum to nothing, with signs
  areas : side a b e + side b a c + side c e b + side e c a ≡ side b a e + side a b c + side e c b + side c e a
  unfolding side
  areas = omega arith

  -- and so do the four points, weighted by the areas opposite to them
  balance_y :
      side c e b * a.y + side e c a * b.y + side a b e * c.y + side b a c * e.y
      ≡ side e c b * a.y + side c e a * b.y + side b a e * c.y + side a b c * e.y
  unfolding side
  balance_y = omega arith

  balance_x :
      side c e b * a.x + side e c a * b.x + side a b e * c.x + side b a c * e.x
      ≡ side e c b * a.x + side c e a * b.x + side b a e * c.x + side a b c * e.x
  unfolding side
  balance_x = omega arith

  -- the areas of c and e about the line a to b, weighted
  weighed : (n j : ℕ) → n * side a b c + j * side a b e ≡ b.x * (n * c.y + j * e.y) + (n + j) * (b.y * a.x) + a.y * (n * c.x + j * e.x)
  unfolding side
  weighed n j = omega arith

  -- those of a point of that line are as large one way as the other
  on_line :
      (m i : ℕ) →
      b.x * (m * a.y + i * b.y) + (m + i) * (b.y * a.x) + a.y * (m * a.x + i * b.x)
      ≡ a.x * (m * a.y + i * b.y) + (m + i) * (a.y * b.x) + b.y * (m * a.x + i * b.x)
  on_line m i = omega arith

-- so they are for a common point
level : (a b c e : Place) (g : Common a b c e) → g.n * side a b c + g.j * side a b e ≡ g.n * side b a c + g.j * side b a e
level a b c e g =
    weighed a b c e g.n g.j
    ∙ rw (← g.lat, ← g.lon, ← g.whole) (on_line a b c e g.m g.i)
    ∙ sym (weighed b a c e g.n g.j)

-- weights that are not both 0 and two numbers that each exceed the other
tilt : (n j p q r s : ℕ) → 0 < n + j → n * p + j * r ≡ n * q + j * s → q < p → s < r → ⊥
tilt n j p q r s some same h k = sum (mul-le-mul_right n hp) (mul-le-mul_right j hr)
  where
    hp : q + 1 ≤ p
    hp = omega arith

    hr : s + 1 ≤ r
    hr = omega arith

    sum : (q + 1) * n ≤ p * n → (s + 1) * j ≤ r * j → ⊥
    sum u v = omega arith

-- ---- what a common point rules out

module _ {a b c e : Place} (g : Common a b c e) where
  pub no_gap_y : max a.y b.y < min c.y e.y → ⊥
  no_gap_y h = gap g.m g.i g.n g.j a.y b.y c.y e.y g.some g.whole g.lat h

  pub no_gap_x : max a.x b.x < min c.x e.x → ⊥
  no_gap_x h = gap g.m g.i g.n g.j a.x b.x c.x e.x g.some g.whole g.lon h

  pub not_left : side b a c < side a b c → side b a e < side a b e → ⊥
  not_left h k = tilt g.n g.j (side a b c) (side b a c) (side a b e) (side b a e) (omega arith) (level a b c e g) h k

  pub not_right : side a b c < side b a c → side a b e < side b a e → ⊥
  not_right h k = tilt g.n g.j (side b a c) (side a b c) (side b a e) (side a b e) (omega arith) (sym (level a b c e g)) h k

-- ---- lines that cross

-- two differences p - q and r - s that are not both above 0 and not both below it
module _ (p q r s : ℕ) (above : q < p → s < r → ⊥) (below : p < q → r < s → ⊥) where
  -- and of which the first is the smaller: 0 is between them
  around : p + s < r + q → (p ≤ q) × (s ≤ r)
  around h = (low (ltb q p) refl, high (ltb r s) refl)
    where
      low : (t : Bool) → ltb q p ≡ t → p ≤ q
      low true e = let d = ltb-true q p e in absurd (above d (omega arith))
      low false e = omega (arith, ltb-false q p e)

      high : (t : Bool) → ltb r s ≡ t → s ≤ r
      high true e = let d = ltb-true r s e in absurd (below (omega arith) d)
      high false e = omega (arith, ltb-false r s e)

  -- or that are equal: they are 0
  nothing : p + s ≡ r + q → (p ≡ q) × (r ≡ s)
  nothing h = go (ltb q p) (ltb p q) refl refl
    where
      go : (t u : Bool) → ltb q p ≡ t → ltb p q ≡ u → (p ≡ q) × (r ≡ s)
      go true u d k = let d' = ltb-true q p d in absurd (above d' (omega arith))
      go false true d k = let k' = ltb-true p q k in absurd (below k' (omega arith))
      go false false d k = omega (arith, ltb-false q p d, ltb-false p q k)

-- one coordinate of the balance, by what each weight exceeds its opposite
settled :
    (pa na pb nb pc nc pe ne u v w z : ℕ) →
    (pb * u + na * v + pe * w + nc * z ≡ nb * u + pa * v + ne * w + pc * z) →
    pb ≤ nb → na ≤ pa → ne ≤ pe → pc ≤ nc → (nb - pb) * u + (pa - na) * v ≡ (pe - ne) * w + (nc - pc) * z
settled pa na pb nb pc nc pe ne u v w z same hb ha he hc = go (nb - pb) (pa - na) (pe - ne) (nc - pc) (omega arith) (omega arith) (omega arith) (omega arith)
  where
    go : (m i n j : ℕ) → nb ≡ pb + m → pa ≡ na + i → pe ≡ ne + n → nc ≡ pc + j → m * u + i * v ≡ n * w + j * z
    go m i n j em ei en ej = omega (arith, ap (λ (t : ℕ). t * u) em, ap (λ (t : ℕ). t * v) ei, ap (λ (t : ℕ). t * w) en, ap (λ (t : ℕ). t * z) ej)

-- nothing separates the segment a to b from the segment c to e: no gap in a coordinate, and neither lies strictly on one side of the other's line
pub record Joined (a b c e : Place) : Type 0 where
  pub y_low : min c.y e.y ≤ max a.y b.y
  pub y_high : min a.y b.y ≤ max c.y e.y
  pub x_low : min c.x e.x ≤ max a.x b.x
  pub x_high : min a.x b.x ≤ max c.x e.x
  pub left : side b a c < side a b c → side b a e < side a b e → ⊥
  pub right : side a b c < side b a c → side a b e < side b a e → ⊥
  pub left' : side e c a < side c e a → side e c b < side c e b → ⊥
  pub right' : side c e a < side e c a → side c e b < side e c b → ⊥

joined_swapped : {a b c e : Place} → Joined a b c e → Joined a b e c
joined_swapped g = record {
  y_low = let h = g.y_low in omega arith;
  y_high = let h = g.y_high in omega arith;
  x_low = let h = g.x_low in omega arith;
  x_high = let h = g.x_high in omega arith;
  left = λ h k. g.left k h;
  right = λ h k. g.right k h;
  left' = g.right';
  right' = g.left';
}

-- e lies further left of a to b than c does: the point that both lines have, weighted by the areas
crossed : (a b c e : Place) → Joined a b c e → side a b c + side b a e < side a b e + side b a c → Common a b c e
crossed a b c e g rise =
    let sum = areas a b c e in
    let fall : side c e b + side e c a < side c e a + side e c b = omega arith in
    let (c_low, e_high) = around (side a b c) (side b a c) (side a b e) (side b a e) g.left g.right rise in
    let (b_low, a_high) =
    around (side c e b) (side e c b) (side c e a) (side e c a) (λ h k. g.left' k h) (λ h k. g.right' k h) fall in
    record {
      m = side e c b - side c e b;
      i = side c e a - side e c a;
      n = side a b e - side b a e;
      j = side b a c - side a b c;
      some = omega arith;
      whole = omega arith;
      lat =
          settled (side c e a) (side e c a) (side c e b) (side e c b) (side a b c) (side b a c) (side a b e) (side b a e) a.y b.y c.y e.y
          (balance_y a b c e) b_low a_high e_high c_low;
      lon =
          settled (side c e a) (side e c a) (side c e b) (side e c b) (side a b c) (side b a c) (side a b e) (side b a e) a.x b.x c.x e.x
          (balance_x a b c e) b_low a_high e_high c_low;
    }

-- ---- one line for both

-- the four ends lie on one line, or a segment is a point
record Flat (a b c e : Place) : Type 0 where
  pub za : side c e a ≡ side e c a
  pub zb : side c e b ≡ side e c b
  pub zc : side a b c ≡ side b a c
  pub ze : side a b e ≡ side b a e

flat_swapped : {a b c e : Place} → Flat a b c e → Flat a b e c
flat_swapped f = record { za = sym f.za; zb = sym f.zb; zc = f.ze; ze = f.zc }

flat_turned : {a b c e : Place} → Flat a b c e → Flat b a c e
flat_turned f = record { za = f.zb; zb = f.za; zc = sym f.zc; ze = sym f.ze }

turned : {a b c e : Place} → Common b a c e → Common a b c e
turned g = record { m = g.i; i = g.m; n = g.n; j = g.j; some = omega arith; whole = omega arith; lat = omega arith; lon = omega arith }

-- a point p of the line c to e that lies between them in latitude is on the segment
touch : (p q c e : Place) → side c e p ≡ side e c p → c.y < e.y → c.y ≤ p.y → p.y ≤ e.y → Common p q c e
unfolding side
touch p q c e z rise low high = go (e.y - p.y) (p.y - c.y) (omega arith) (omega arith)
  where
    go : (n j : ℕ) → e.y ≡ p.y + n → p.y ≡ c.y + j → Common p q c e
    go n j en ej = record {
      m = n + j;
      i = 0;
      n = n;
      j = j;
      some = omega arith;
      whole = omega arith;
      lat = omega (arith, ap (λ (t : ℕ). t * n) ej, ap (λ (t : ℕ). t * j) en);
      lon = omega (arith, ap (λ (t : ℕ). t * c.x) en, ap (λ (t : ℕ). t * e.x) ej, ap (λ (t : ℕ). t * p.x) en, ap (λ (t : ℕ). t * p.x) ej);
    }

-- both ordered by latitude, overlapping in it, and not both of no extent in it: the one that starts later starts on the other
ordered :
    (a b c e : Place) → Flat a b c e → a.y ≤ b.y → c.y ≤ e.y → c.y ≤ b.y → a.y ≤ e.y → a.y + c.y < b.y + e.y → Common a b c e
ordered a b c e f ab ce cb ae extent = go (ltb a.y b.y) (ltb c.y e.y) (ltb c.y a.y) refl refl refl
  where
    first : c.y < e.y → c.y ≤ a.y → Common a b c e
    first h k = touch a b c e f.za h k ae

    second : a.y < b.y → a.y ≤ c.y → Common a b c e
    second h k = exchanged (touch c e a b f.zc h k cb)

    go : (t u v : Bool) → ltb a.y b.y ≡ t → ltb c.y e.y ≡ u → ltb c.y a.y ≡ v → Common a b c e
    go t true true p q r = first (ltb-true c.y e.y q) (omega (arith, ltb-true c.y a.y r))
    go true u false p q r = second (ltb-true a.y b.y p) (ltb-false c.y a.y r)
    go false true false p q r = first (ltb-true c.y e.y q) (omega (arith, ltb-false a.y b.y p))
    go t false true p q r = absurd (omega (arith, ltb-false c.y e.y q, ltb-true c.y a.y r))
    go false false false p q r = absurd (omega (arith, ltb-false a.y b.y p, ltb-false c.y e.y q))

-- the same in any order
collinear_y :
    (a b c e : Place) → Flat a b c e → min c.y e.y ≤ max a.y b.y → min a.y b.y ≤ max c.y e.y →
    min a.y b.y + min c.y e.y < max a.y b.y + max c.y e.y → Common a b c e
collinear_y a b c e f low high extent = go (ltb b.y a.y) (ltb e.y c.y) refl refl
  where
    go : (t u : Bool) → ltb b.y a.y ≡ t → ltb e.y c.y ≡ u → Common a b c e
    go false false p q =
        let h = ltb-false b.y a.y p in
        let k = ltb-false e.y c.y q in
        ordered a b c e f h k (omega arith) (omega arith) (omega arith)
    go false true p q =
        let h = ltb-false b.y a.y p in
        let k = ltb-true e.y c.y q in
        swapped (ordered a b e c (flat_swapped f) h (omega arith) (omega arith) (omega arith) (omega arith))
    go true false p q =
        let h = ltb-true b.y a.y p in
        let k = ltb-false e.y c.y q in
        turned (ordered b a c e (flat_turned f) (omega arith) k (omega arith) (omega arith) (omega arith))
    go true true p q =
        let h = ltb-true b.y a.y p in
        let k = ltb-true e.y c.y q in
        turned (swapped (ordered b a e c (flat_turned (flat_swapped f)) (omega arith) (omega arith) (omega arith) (omega arith) (omega arith)))

flat_flipped : {a b c e : Place} → Flat a b c e → Flat (flip a) (flip b) (flip c) (flip e)
unfolding side
flat_flipped {a} {b} {c} {e} f = record {
  za = let h = f.za in omega arith;
  zb = let h = f.zb in omega arith;
  zc = let h = f.zc in omega arith;
  ze = let h = f.ze in omega arith;
}

-- by latitude where a segment extends in it, else by longitude, else the four ends are one point
collinear : (a b c e : Place) → Joined a b c e → Flat a b c e → Common a b c e
collinear a b c e g f =
    go (ltb (min a.y b.y + min c.y e.y) (max a.y b.y + max c.y e.y))
    (ltb (min a.x b.x + min c.x e.x) (max a.x b.x + max c.x e.x)) refl refl
  where
    point : (p q r s : ℕ) → min r s ≤ max p q → min p q ≤ max r s → max p q + max r s ≤ min p q + min r s → 1 * p + 0 * q ≡ 1 * r + 0 * s
    point p q r s h k l = omega arith

    go :
        (t u : Bool) →
        ltb (min a.y b.y + min c.y e.y) (max a.y b.y + max c.y e.y) ≡ t →
        ltb (min a.x b.x + min c.x e.x) (max a.x b.x + max c.x e.x) ≡ u →
        Common a b c e
    go true u p q = collinear_y a b c e f g.y_low g.y_high (ltb-true _ _ p)
    go false true p q = flipped (collinear_y (flip a) (flip b) (flip c) (flip e) (flat_flipped f) g.x_low g.x_high (ltb-true _ _ q))
    go false false p q = record {
      m = 1;
      i = 0;
      n = 1;
      j = 0;
      some = omega arith;
      whole = refl;
      lat = point a.y b.y c.y e.y g.y_low g.y_high (ltb-false _ _ p);
      lon = point a.x b.x c.x e.x g.x_low g.x_high (ltb-false _ _ q);
    }

-- ---- nothing separates them: there is a common point

pub found : (a b c e : Place) → Joined a b c e → Common a b c e
found a b c e g =
    go (ltb (side a b c + side b a e) (side a b e + side b a c)) (ltb (side a b e + side b a c) (side a b c + side b a e)) refl refl
  where
    level_ends : side a b c + side b a e ≡ side a b e + side b a c → Flat a b c e
    level_ends h =
        let sum = areas a b c e in
        let (zc, ze) = nothing (side a b c) (side b a c) (side a b e) (side b a e) g.left g.right h in
        let (za, zb) = nothing (side c e a) (side e c a) (side c e b) (side e c b) g.left' g.right' (omega arith) in
        record { za = za; zb = zb; zc = zc; ze = ze }

    go :
        (t u : Bool) →
        ltb (side a b c + side b a e) (side a b e + side b a c) ≡ t →
        ltb (side a b e + side b a c) (side a b c + side b a e) ≡ u →
        Common a b c e
    go true u p q = crossed a b c e g (ltb-true _ _ p)
    go false true p q = swapped (crossed a b e c (joined_swapped g) (ltb-true _ _ q))
    go false false p q =
        let h = ltb-false (side a b c + side b a e) (side a b e + side b a c) p in
        let k = ltb-false (side a b e + side b a c) (side a b c + side b a e) q in
        collinear a b c e g (level_ends (omega arith))
