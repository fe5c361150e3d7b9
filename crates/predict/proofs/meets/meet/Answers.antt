-- `predict::meets::meet` meets its contract: each return by its test. A tile that has room lies below place 96, and its pages within the
-- budget, so that no sum wraps and the stores before it leave the pages as they are.
use Prim.Native.Nat.{ℕ, ◌+◌, ◌≤◌, ◌<◌}
use mathlib.Core.Path.{◌≡◌, sym, ◌∙◌}
use mathlib.Core.Bool.{true}
use mathlib.Core.List.{List}
use native.Mathlib.Omega.{arith}
use lib.Dec.{ltb, leb}
use lib.ListN.{get_or, set}
use lib.Seq.{get_or-set_other}
use borrow.Author.Tests.{not-true, not-false, ltb-true, leb-true}
use Rattle.cache.proofs.Below.{and_left, and_right}
use Rattle.predict.specs.Meets.{meet, has_room, tiles_of, pages_of}
use Rattle.predict.proofs.meets.meet.Goals as goal

-- what room tells
module _ (m : List ℕ) (pages budget : ℕ) (e : has_room m pages budget ≡ true) where
  below : tiles_of m < 96
  below = ltb-true (tiles_of m) 96 (and_left (ltb (tiles_of m) 96) (leb (pages_of m + pages) budget) e)

  within : pages_of m + pages ≤ budget
  within = leb-true (pages_of m + pages) budget (and_right (ltb (tiles_of m) 96) (leb (pages_of m + pages) budget) e)

  -- behind the tile and how many they are, the pages are as they were
  kept : (row col n : ℕ) → get_or (set (set (set m (tiles_of m) row) (96 + tiles_of m) col) 192 n) 193 0 ≡ pages_of m
  kept row col n =
      get_or-set_other (set (set m (tiles_of m) row) (96 + tiles_of m) col) 192 193 n 0 (λ (q : 193 ≡ 192). absurd (omega (arith, q)))
      ∙ get_or-set_other (set m (tiles_of m) row) (96 + tiles_of m) 193 col 0 (λ (q : 193 ≡ 96 + tiles_of m). absurd (omega (arith, q, below)))
      ∙ get_or-set_other m (tiles_of m) 193 row 0 (λ (q : 193 ≡ tiles_of m). absurd (omega (arith, q, below)))

pub returns-then-has_met : goal.returns-then-has_met
unfolding meet
returns-then-has_met c = let known = sym c.has_met.ensures ∙ c.if-has_met.true in
    record {
      value = rw known;
      met_after = rw known;
    }

pub returns-then-not-has_room : goal.returns-then-not-has_room
unfolding meet
returns-then-not-has_room c =
    let new = sym c.has_met.ensures ∙ c.if-has_met.false in
    let full = sym c.has_room.ensures ∙ not-true _ c.if-not-has_room.true-raw in
    record {
      value = rw (new, full);
      met_after = rw (new, full);
    }

pub returns : goal.returns
unfolding meet
returns c =
    let args = c.args in
    let new = sym c.has_met.ensures ∙ c.if-has_met.false in
    let ok = sym c.has_room.ensures ∙ not-false _ c.if-not-has_room.false-raw in
    record {
      value = rw (new, ok);
      met_after = rw (new, ok, kept args.met.now args.pages args.budget ok);
    }
