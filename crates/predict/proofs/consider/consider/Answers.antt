-- `predict::consider::consider` meets its contract. The loop's invariant: the ways on so far are the definition's after as many entries. An entry
-- adds nothing once there are twelve (`full`) or where it is no way on (`skips`); one that is a way on stands in the next place (`writes`).
use Prim.Native.Nat.{ℕ, ◌+◌, ◌-◌, ◌≤◌, ◌<◌}
use mathlib.Core.Path.{◌≡◌, refl, sym, ◌∙◌}
use mathlib.Core.Bool.{Bool, true, false, cond}
use mathlib.Core.List.{List}
use native.Mathlib.Omega.{arith}
use lib.ListN.{set}
use borrow.Author.Tests.{le-leb, lt-leb, not-true, not-false}
use borrow.Author.Rules.{rules}
use Rattle.num.proofs.FoldLaws.{up_start}
use Rattle.pack.specs.declared.TileKey.{TileKey}
use Rattle.tile.specs.declared.Incident.{Incident}
use Rattle.predict.specs.declared.Arrival.{Arrival}
use Rattle.predict.specs.declared.Choice.{Choice}
use Rattle.predict.specs.declared.Choices.{Choices}
use Rattle.predict.specs.Choose.{push}
use Rattle.predict.specs.Consider.{choice_of, is_way_on, consider_step, consider_to, consider}
use Rattle.predict.proofs.consider.consider.Goals as goal
use Rattle.predict.proofs.consider.consider.Invariants.{turn}

-- ---- one entry

either : (t : Bool) (d : Choices) → cond t d d ≡ d
either true d = refl
either false d = refl

dropped : (d : Choices) (choice : Choice) → 12 ≤ d.len → push d choice ≡ d
unfolding push
dropped d choice h = rw (le-leb 12 d.len h)

module _ (d : Choices) (a : Arrival) (v bs : List ℕ) (key : TileKey) (entry : Incident) where
  full : 12 ≤ d.len → consider_step d a v bs key entry ≡ d
  unfolding consider_step
  full h = rw (dropped d (choice_of a bs key entry) h) (either (is_way_on a v bs key entry) d)

  skips : is_way_on a v bs key entry ≡ false → consider_step d a v bs key entry ≡ d
  unfolding consider_step
  skips e = rw e

  writes : (choice : Choice) → d.len < 12 → is_way_on a v bs key entry ≡ true → choice ≡ choice_of a bs key entry
      → consider_step d a v bs key entry ≡ record { v = set d.v d.len choice; len = d.len + 1 }
  unfolding consider_step push
  writes choice h e made = rw (e, lt-leb 12 d.len h, made)

-- ---- the entries so far

none : (n : ℕ) → n - n ≡ 0
none n = omega arith

pub loop-i-init : goal.loop-i-init
loop-i-init c = (search rules, (omega arith, rw (none, up_start)))

pub loop-i-preserved-then-d-ge12 : goal.loop-i-preserved-then-d-ge12
loop-i-preserved-then-d-ge12 c =
    let at_loop = c.loop-i in
    let args = c.args in (
      omega (arith, at_loop.invariant.0),
      (
        omega (arith, at_loop.invariant.0, c.loop-i-test.true),
        turn _ _ _ _ _ _ at_loop.d at_loop.d at_loop.i c.entry-entry.result at_loop.invariant.0 at_loop.invariant.1.1 c.entry-entry.ensures
            (full at_loop.d args.a _ _ args.key c.entry-entry.result c.if-d-ge12.true),
      ),
    )

pub loop-i-preserved-then-not-is_way_on : goal.loop-i-preserved-then-not-is_way_on
loop-i-preserved-then-not-is_way_on c =
    let at_loop = c.loop-i in
    let args = c.args in (
      omega (arith, at_loop.invariant.0),
      (
        omega (arith, at_loop.invariant.0, c.loop-i-test.true),
        turn _ _ _ _ _ _ at_loop.d at_loop.d at_loop.i c.entry-entry.result at_loop.invariant.0 at_loop.invariant.1.1 c.entry-entry.ensures
            (skips at_loop.d args.a _ _ args.key c.entry-entry.result (sym c.is_way_on.ensures ∙ not-true _ c.if-not-is_way_on.true-raw)),
      ),
    )

pub loop-i-preserved : goal.loop-i-preserved
loop-i-preserved c =
    let at_loop = c.loop-i in
    let args = c.args in (
      omega (arith, at_loop.invariant.0),
      (
        omega (arith, at_loop.invariant.0, c.loop-i-test.true),
        turn _ _ _ _ _ _ at_loop.d _ at_loop.i c.entry-entry.result at_loop.invariant.0 at_loop.invariant.1.1 c.entry-entry.ensures
            (writes at_loop.d args.a _ _ args.key c.entry-entry.result c.choice_of-choice.result c.if-d-ge12.false
            (sym c.is_way_on.ensures ∙ not-false _ c.if-not-is_way_on.false-raw) c.choice_of-choice.ensures),
      ),
    )

pub returns : goal.returns
unfolding consider consider_to
returns c =
    let at_loop = c.loop-i in
    let first = c.adjacency_start-i.result in
    let last = c.adjacency_end-end.result in
    let end : at_loop.i - first ≡ last - first = omega (arith, c.loop-i-test.false, at_loop.invariant.1.0) in
    rw (at_loop.invariant.1.1, end, ← c.adjacency_start-i.ensures, ← c.adjacency_end-end.ensures)
