-- The binary search of `node_at`. A step keeps the answer, and more steps than there are nodes between low and high change nothing.
-- What is found is a node at the place asked for; and in an accepted tile, whose nodes stand in order, a node that is there is found.
use Prim.Native.Nat.{ℕ, zero, suc, ◌+◌, ◌-◌, ◌/◌, ◌≤◌, ◌<◌}
use mathlib.Core.Path.{◌≡◌, refl, sym, ◌∙◌}
use mathlib.Core.Bool.{Bool, true, false, ◌&&◌, cond, true≢false}
use mathlib.Core.List.{List}
use native.Mathlib.Omega.{arith}
use lib.Dec.{ltb, eqb, leb}
use borrow.Author.Tests.{ltb-true, ltb-false, eqb-true, eqb-false, leb-true, leb-false, lt-ltb, le-ltb, eq-eqb}
use Rattle.pack.specs.declared.TileKey.{TileKey}
use Rattle.std.specs.Prelude.{Option, Some, None, is_some}
use Rattle.tile.specs.Layout.{nodes_of, node_of}
use Rattle.tile.specs.Order.{before}
use Rattle.tile.specs.Parse.{accepts, nodes_ordered}
use Rattle.tile.specs.Readers.{search, nodes_there, node_at, stands_at, is_there}
use Rattle.tile.proofs.Laws.{any_at, any_none}
use Rattle.tile.proofs.Ordered.{before_itself, same_place, in_order_all}
use Rattle.tile.proofs.Within.{accepted_order, nodes_there_lem}

-- ---- steps

abbrev middle : ℕ → ℕ → ℕ
middle low high = (low + high) / 2

module _ (bs : List ℕ) (x y : ℕ) where
  -- node i comes before the place
  abbrev node_first : ℕ → Bool
  node_first i = before (node_of bs i).y (node_of bs i).x y x

  -- the place comes before node i
  abbrev place_first : ℕ → Bool
  place_first i = before y x (node_of bs i).y (node_of bs i).x

  search-zero : (low high : ℕ) → search zero bs x y low high ≡ None
  unfolding search
  search-zero low high = refl

  pub search_none : (left low high : ℕ) → high ≤ low → search left bs x y low high ≡ None
  unfolding search
  search_none zero low high h = refl
  search_none (suc left) low high h = rw (le-ltb low high h)

  -- what a step makes of the two that may follow it
  abbrev stepped : ℕ → ℕ → ℕ → Option ℕ
  stepped left low high =
      cond (node_first (middle low high)) (search left bs x y (middle low high + 1) high)
      (cond (place_first (middle low high)) (search left bs x y low (middle low high)) (Some (middle low high)))

  search_some : (left low high : ℕ) → low < high → search (suc left) bs x y low high ≡ stepped left low high
  unfolding search
  search_some left low high h = rw (lt-ltb low high h)

  -- as many steps as there are nodes between low and high are enough
  pub search_enough : (a b low high : ℕ) → high - low ≤ a → high - low ≤ b → search a bs x y low high ≡ search b bs x y low high
  search_enough zero b low high h k = rw (search_none zero low high (omega arith), search_none b low high (omega arith))
  search_enough (suc a) zero low high h k = rw (search_none zero low high (omega arith), search_none (suc a) low high (omega arith))
  search_enough (suc a) (suc b) low high h k =
      go (ltb low high) refl
      (λ some. search_enough a b (middle low high + 1) high (omega arith) (omega arith))
      (λ some. search_enough a b low (middle low high) (omega arith) (omega arith))
    where
      go : (t : Bool) → ltb low high ≡ t
          → (low < high → search a bs x y (middle low high + 1) high ≡ search b bs x y (middle low high + 1) high)
          → (low < high → search a bs x y low (middle low high) ≡ search b bs x y low (middle low high))
          → search (suc a) bs x y low high ≡ search (suc b) bs x y low high
      go true e right left =
          let some : low < high = ltb-true low high e in
          rw (search_some a low high some, search_some b low high some, right some, left some)
      go false e right left =
          let none : high ≤ low = ltb-false low high e in
          rw (search_none (suc a) low high none, search_none (suc b) low high none)

  -- so with one step for each node that there is, a step need not be counted
  pub search_step : (left low high : ℕ) → low < high → high ≤ left → search left bs x y low high ≡ stepped left low high
  search_step zero low high h k = absurd (omega arith)
  search_step (suc left) low high h k =
      let right : search (suc left) bs x y (middle low high + 1) high ≡ search left bs x y (middle low high + 1) high
      = search_enough (suc left) left (middle low high + 1) high (omega arith) (omega arith) in
      let low_half : search (suc left) bs x y low (middle low high) ≡ search left bs x y low (middle low high)
      = search_enough (suc left) left low (middle low high) (omega arith) (omega arith) in
      rw (search_some left low high h, right, low_half)

-- ---- what is found is there

nothing_found : (i : ℕ) → None ≡ Some i → ⊥
nothing_found i e = let z : ◌≡◌ {A = ℕ} 0 1 = cc in omega arith

-- node i is below a bound, and at the place
abbrev There : List ℕ → ℕ → ℕ → ℕ → ℕ → Type 0
There bs x y high i = (i < high) × (((node_of bs i).x ≡ x) × ((node_of bs i).y ≡ y))

search_there : (bs : List ℕ) (x y i left low high : ℕ) → search left bs x y low high ≡ Some i → There bs x y high i
search_there bs x y i zero low high e = absurd (nothing_found i (sym (search-zero bs x y low high) ∙ e))
search_there bs x y i (suc left) low high e =
    go (ltb low high) (node_first bs x y (middle low high)) (place_first bs x y (middle low high)) refl refl refl
    (search_there bs x y i left (middle low high + 1) high)
    (search_there bs x y i left low (middle low high))
  where
    go : (some node place : Bool) → ltb low high ≡ some → node_first bs x y (middle low high) ≡ node → place_first bs x y (middle low high) ≡ place
        → (search left bs x y (middle low high + 1) high ≡ Some i → There bs x y high i)
        → (search left bs x y low (middle low high) ≡ Some i → There bs x y (middle low high) i)
        → There bs x y high i
    go false node place p q r right low_half = absurd (nothing_found i (sym (search_none bs x y (suc left) low high (ltb-false low high p)) ∙ e))
    go true true place p q r right low_half = right (rw (search_some bs x y left low high (ltb-true low high p), q) at e)
    go true false true p q r right low_half =
        let l : There bs x y (middle low high) i = low_half (rw (search_some bs x y left low high (ltb-true low high p), q, r) at e) in
        (omega (arith, ltb-true low high p), l.1)
    go true false false p q r right low_half =
        let hit : Some (middle low high) ≡ Some i = rw (search_some bs x y left low high (ltb-true low high p), q, r) at e in
        let same : middle low high ≡ i = cc in (
          omega (arith, ltb-true low high p),
          rw same at (same_place (node_of bs (middle low high)).y (node_of bs (middle low high)).x y x q r),
        )

pub node_at_there : (bs : List ℕ) (x y i : ℕ) → node_at bs x y ≡ Some i → (i < nodes_of bs) × (((node_of bs i).x ≡ x) × ((node_of bs i).y ≡ y))
unfolding node_at
node_at_there bs x y i e =
    let there : There bs x y (nodes_there bs) i = search_there bs x y i (nodes_there bs) 0 (nodes_there bs) e in (omega arith, there.1)

-- ---- what is there is found

-- no later node comes before an earlier one
abbrev Ordered : List ℕ → Type 0
Ordered bs =
    (i j : ℕ) → i < j → j < nodes_of bs → before (node_of bs j).y (node_of bs j).x (node_of bs i).y (node_of bs i).x ≡ false

-- nor before itself
ordered_up_to : (bs : List ℕ) → Ordered bs → (i j : ℕ) → i ≤ j → j < nodes_of bs
    → before (node_of bs j).y (node_of bs j).x (node_of bs i).y (node_of bs i).x ≡ false
ordered_up_to bs ordered i j h k = go (eqb i j) refl
  where
    go : (t : Bool) → eqb i j ≡ t → before (node_of bs j).y (node_of bs j).x (node_of bs i).y (node_of bs i).x ≡ false
    go true e = rw (eqb-true i j e) (before_itself (node_of bs j).y (node_of bs j).x)
    go false e = ordered i j (omega (arith, eqb-false i j e)) k

module _ (bs : List ℕ) (ordered : Ordered bs) (x y i : ℕ) (at_x : (node_of bs i).x ≡ x) (at_y : (node_of bs i).y ≡ y) where
  -- node i is among those that are left: it stands behind a middle that comes before the place, and ahead of one that the place comes before
  behind : (m : ℕ) → m < nodes_of bs → node_first bs x y m ≡ true → m < i
  behind m k e = go (leb i m) refl
    where
      go : (t : Bool) → leb i m ≡ t → m < i
      go true q = absurd (true≢false (sym e ∙ (rw (at_x, at_y) at (ordered_up_to bs ordered i m (leb-true i m q) k))))
      go false q = leb-false i m q

  ahead : (m : ℕ) → i < nodes_of bs → place_first bs x y m ≡ true → i < m
  ahead m k e = go (leb m i) refl
    where
      go : (t : Bool) → leb m i ≡ t → i < m
      go true q = absurd (true≢false (sym e ∙ (rw (at_x, at_y) at (ordered_up_to bs ordered m i (leb-true m i q) k))))
      go false q = leb-false m i q

  search_found : (left low high : ℕ) → high - low ≤ left → low ≤ i → i < high → high ≤ nodes_of bs → search left bs x y low high ≡ None → ⊥
  search_found zero low high enough from to within e = omega arith
  search_found (suc left) low high enough from to within e =
      go (node_first bs x y (middle low high)) (place_first bs x y (middle low high)) refl refl
      (λ past. search_found left (middle low high + 1) high (omega arith) (omega arith) to within)
      (λ short. search_found left low (middle low high) (omega arith) from short (omega arith))
    where
      go : (node place : Bool) → node_first bs x y (middle low high) ≡ node → place_first bs x y (middle low high) ≡ place
          → (middle low high < i → search left bs x y (middle low high + 1) high ≡ None → ⊥)
          → (i < middle low high → search left bs x y low (middle low high) ≡ None → ⊥)
          → ⊥
      go true place q r right low_half =
          right (behind (middle low high) (omega arith) q) (rw (search_some bs x y left low high (omega arith), q) at e)
      go false true q r right low_half =
          low_half (ahead (middle low high) (omega arith) r) (rw (search_some bs x y left low high (omega arith), q, r) at e)
      go false false q r right low_half =
          nothing_found (middle low high) (sym (rw (search_some bs x y left low high (omega arith), q, r) at e))

node_at_found : (bs : List ℕ) → Ordered bs → (x y i : ℕ) → i < nodes_there bs → (node_of bs i).x ≡ x → (node_of bs i).y ≡ y → node_at bs x y ≡ None → ⊥
unfolding node_at
node_at_found bs ordered x y i h at_x at_y e =
    search_found bs ordered x y i at_x at_y (nodes_there bs) 0 (nodes_there bs) (omega arith) (omega arith) h (omega arith) e

-- ---- exactly

stands : (bs : List ℕ) (x y i : ℕ) → (node_of bs i).x ≡ x → (node_of bs i).y ≡ y → stands_at bs x y i ≡ true
stands bs x y i p q = rw (eq-eqb (node_of bs i).x x p, eq-eqb (node_of bs i).y y q)

stands_not : (bs : List ℕ) (x y i : ℕ) → ((node_of bs i).x ≡ x → (node_of bs i).y ≡ y → ⊥) → stands_at bs x y i ≡ false
stands_not bs x y i not_there = go (eqb (node_of bs i).x x) (eqb (node_of bs i).y y) refl refl
  where
    go : (a b : Bool) → eqb (node_of bs i).x x ≡ a → eqb (node_of bs i).y y ≡ b → (a && b) ≡ false
    go true true p q = absurd (not_there (eqb-true (node_of bs i).x x p) (eqb-true (node_of bs i).y y q))
    go true false p q = refl
    go false b p q = refl

-- document 02, request 7: a node is found exactly if one stands at that place
ordered_exact : (bs : List ℕ) → nodes_ordered bs ≡ true → nodes_there bs ≡ nodes_of bs → (x y : ℕ) → is_some (node_at bs x y) ≡ is_there bs x y
ordered_exact bs e All-there x y = go (node_at bs x y) refl
  where
    ordered : Ordered bs
    ordered i j h k = in_order_all (node_of bs) (nodes_of bs) i j e h k

    go : (found : Option ℕ) → node_at bs x y ≡ found → is_some found ≡ is_there bs x y
    go (Some i) q =
        let there = node_at_there bs x y i q in sym (any_at (stands_at bs x y) i (nodes_of bs) there.0 (stands bs x y i there.1.0 there.1.1))
    go None q =
        sym (any_none (stands_at bs x y) (nodes_of bs)
        (λ (i : ℕ) (h : i < nodes_of bs). stands_not bs x y i (λ at_x at_y. node_at_found bs ordered x y i (rw All-there h) at_x at_y q)))

pub node_at_exact : (bs : List ℕ) (key : TileKey) (size : ℕ) → accepts bs key size ≡ true → (x y : ℕ) → is_some (node_at bs x y) ≡ is_there bs x y
node_at_exact bs key size ok = ordered_exact bs (accepted_order bs key size ok) (nodes_there_lem bs key size ok)
