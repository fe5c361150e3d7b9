-- `predict::visits::was_visited` meets its contract. The loop's invariant: no place passed holds the edge.
use Prim.Native.Nat.{ℕ, ◌≤◌}
use mathlib.Core.Path.{◌≡◌, sym, ◌∙◌}
use native.Mathlib.Omega.{arith}
use borrow.Author.Tests.{lt-ltb, le-ltb}
use Rattle.cache.proofs.SearchLaws.{lowest_start, lowest_hit, lowest_miss, lowest_past}
use Rattle.predict.specs.Visits.{was_visited}
use Rattle.predict.proofs.visits.was_visited.Goals as goal

pub loop-i-init : goal.loop-i-init
loop-i-init c = lowest_start _

pub returns-then-i-ge128 : goal.returns-then-i-ge128
unfolding was_visited
returns-then-i-ge128 c =
    let at_loop = c.loop-i in
    let count = c.wide-n in
    rw (
      ← count.ensures,
      lowest_past _ at_loop.i count.result (omega arith)
          (λ (k : ℕ) (h : at_loop.i ≤ k). rw (le-ltb k 128 (omega (arith, h, c.if-i-ge128.true))))
          at_loop.invariant,
    )

pub returns-then-is_followed : goal.returns-then-is_followed
unfolding was_visited
returns-then-is_followed c =
    let at_loop = c.loop-i in
    let count = c.wide-n in
    let low = lt-ltb at_loop.i 128 (omega (arith, c.if-i-ge128.false)) in
    rw (
      ← count.ensures,
      lowest_hit _ at_loop.i count.result c.loop-i-test.true at_loop.invariant
          (rw low (sym c.is_followed.ensures ∙ c.if-is_followed.true)),
    )

pub loop-i-preserved : goal.loop-i-preserved
loop-i-preserved c =
    let at_loop = c.loop-i in
    let low = lt-ltb at_loop.i 128 (omega (arith, c.if-i-ge128.false)) in
    lowest_miss _ at_loop.i at_loop.invariant (rw low (sym c.is_followed.ensures ∙ c.if-is_followed.false))

pub returns : goal.returns
unfolding was_visited
returns c =
    let at_loop = c.loop-i in
    let count = c.wide-n in
    let end : at_loop.i ≡ count.result = omega (arith, c.loop-i-test.false) in
    rw (← count.ensures, rw end at at_loop.invariant)
