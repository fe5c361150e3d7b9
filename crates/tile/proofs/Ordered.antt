-- The order of places by y, then x, and nodes that stand in it. Of nodes each of which follows the one before it, no later one lies below any earlier
-- one; and what a pass over the nodes asks of the next one, with the place of the one before it at hand as one number.
use Prim.Native.Nat.{ℕ, zero, suc, ◌+◌, ◌*◌, ◌≤◌, ◌<◌}
use mathlib.Core.Path.{◌≡◌, refl, sym}
use mathlib.Core.Bool.{Bool, true, false, ◌&&◌, ◌||◌, not, true≢false}
use native.Mathlib.Numerals.{add-one}
use native.Mathlib.Omega.{arith}
use lib.Dec.{ltb, eqb}
use borrow.Author.Tests.{ltb-true, ltb-false, eqb-true, eqb-false, lt-ltb, le-ltb, eq-eqb}
use Rattle.tile.specs.Order.{before, is_below, follows, in_order}
use Rattle.tile.specs.declared.Node.{Node}
use Rattle.tile.proofs.Laws.{all_at}

-- ---- the order of places

or_left : (a b : Bool) → (a || b) ≡ false → a ≡ false
or_left true b e = e
or_left false b e = refl

or_right : (a b : Bool) → (a || b) ≡ false → b ≡ false
or_right true b e = absurd (true≢false e)
or_right false b e = e

-- no place comes before itself
pub before_itself : (y x : ℕ) → before y x y x ≡ false
before_itself y x =
    let y≤ : y ≤ y = omega arith in
    let x≤ : x ≤ x = omega arith in
    rw (le-ltb y y y≤, eq-eqb y y refl, le-ltb x x x≤)

-- where the one is not before the other, y is not less, and at the same y neither is x
not_before : (ay ax by bx : ℕ) → before ay ax by bx ≡ false → (by ≤ ay) × (ay ≡ by → bx ≤ ax)
not_before ay ax by bx e = (
  ltb-false ay by (or_left (ltb ay by) (eqb ay by && ltb ax bx) e),
  λ same. ltb-false ax bx (rw (eq-eqb ay by same) at (or_right (ltb ay by) (eqb ay by && ltb ax bx) e)),
)

-- and back
is_not_before : (ay ax by bx : ℕ) → by ≤ ay → (ay ≡ by → bx ≤ ax) → before ay ax by bx ≡ false
is_not_before ay ax by bx h k = go (eqb ay by) refl
  where
    go : (same : Bool) → eqb ay by ≡ same → before ay ax by bx ≡ false
    go true q = rw (le-ltb ay by h, q, le-ltb ax bx (k (eqb-true ay by q)))
    go false q = rw (le-ltb ay by h, q)

-- two places of which neither comes before the other are the same
pub same_place : (ay ax by bx : ℕ) → before ay ax by bx ≡ false → before by bx ay ax ≡ false → (ax ≡ bx) × (ay ≡ by)
same_place ay ax by bx e f =
    let one : (by ≤ ay) × (ay ≡ by → bx ≤ ax) = not_before ay ax by bx e in
    let two : (ay ≤ by) × (by ≡ ay → ax ≤ bx) = not_before by bx ay ax f in
    let same : ay ≡ by = omega arith in
    (omega (arith, one.1 same, two.1 (sym same)), same)

not_before_past : (ay ax by bx cy cx : ℕ) → before ay ax by bx ≡ false → before by bx cy cx ≡ false → before ay ax cy cx ≡ false
not_before_past ay ax by bx cy cx e f =
    let one : (by ≤ ay) × (ay ≡ by → bx ≤ ax) = not_before ay ax by bx e in
    let two : (cy ≤ by) × (by ≡ cy → cx ≤ bx) = not_before by bx cy cx f in
    is_not_before ay ax cy cx (omega arith)
    (λ (same : ay ≡ cy).
    let left : ay ≡ by = omega arith in
    let right : by ≡ cy = omega arith in
    omega (arith, one.1 left, two.1 right))

-- ---- a place as one number, which tells the order where each x is below 65,536

abbrev pub place_number : Node → ℕ
place_number n = n.y * 65536 + n.x

number_below : (a b : Node) → a.x < 65536 → b.x < 65536 → ltb (place_number a) (place_number b) ≡ is_below a b
number_below a b h k = go (ltb a.y b.y) refl (eqb a.y b.y) refl (ltb a.x b.x) refl
  where
    go : (lower : Bool) → ltb a.y b.y ≡ lower → (same : Bool) → eqb a.y b.y ≡ same → (left : Bool) → ltb a.x b.x ≡ left
        → ltb (place_number a) (place_number b) ≡ is_below a b
    go true e same f left g = rw e (lt-ltb (place_number a) (place_number b) (omega (arith, ltb-true a.y b.y e)))
    go false e true f true g =
        rw (e, f, g) (lt-ltb (place_number a) (place_number b) (omega (arith, eqb-true a.y b.y f, ltb-true a.x b.x g)))
    go false e true f false g =
        rw (e, f, g) (le-ltb (place_number a) (place_number b) (omega (arith, eqb-true a.y b.y f, ltb-false a.x b.x g)))
    go false e false f left g =
        rw (e, f) (le-ltb (place_number a) (place_number b) (omega (arith, ltb-false a.y b.y e, eqb-false a.y b.y f)))

-- ---- nodes in order

not_back : (b : Bool) → not b ≡ true → b ≡ false
not_back true e = absurd (true≢false (sym e))
not_back false e = refl

module _ (node : ℕ → Node) where
  -- at the first node a pass holds 0, below which nothing lies
  pub follows_first : not (ltb (place_number (node 0)) 0) ≡ follows node 0
  unfolding follows
  follows_first = rw (le-ltb (place_number (node 0)) 0 (omega arith))

  -- behind it, the node before
  pub follows_next : (i : ℕ) → (node (i + 1)).x < 65536 → (node i).x < 65536
      → not (ltb (place_number (node (i + 1))) (place_number (node i))) ≡ follows node (i + 1)
  unfolding follows
  follows_next i h k = rw (number_below (node (i + 1)) (node i) h k) (rw (add-one))

  pub in_order_all : (n i j : ℕ) → in_order node n ≡ true → i < j → j < n → is_below (node j) (node i) ≡ false
  unfolding follows
  in_order_all n i zero e h k = absurd (omega arith)
  in_order_all n i (suc j) e h k = go (eqb i j) refl (λ (l : i < j). in_order_all n i j e l (omega arith))
    where
      next : is_below (node (suc j)) (node j) ≡ false
      next = not_back (is_below (node (suc j)) (node j)) (all_at (follows node) (suc j) n k e)

      go : (same : Bool) → eqb i j ≡ same → (i < j → is_below (node j) (node i) ≡ false) → is_below (node (suc j)) (node i) ≡ false
      go true q earlier = rw (eqb-true i j q) next
      go false q earlier =
          not_before_past (node (suc j)).y (node (suc j)).x (node j).y (node j).x (node i).y (node i).x next
          (earlier (omega (arith, eqb-false i j q)))
