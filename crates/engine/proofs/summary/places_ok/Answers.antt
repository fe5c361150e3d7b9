-- `engine::summary::places_ok` meets its contract. The loop's invariant: every place passed is a point.
use Rattle.std.proofs.Common.{◌≡◌, sym, ◌∙◌, arith, w32, le-leb}
use borrow.Author.Tests.{not-true, not-false, lt-leb}
use Rattle.pack.proofs.Signed.{got}
use Rattle.cache.proofs.SearchLaws.{lowest_start, lowest_hit, lowest_miss}
use Rattle.engine.specs.State.{places_ok}
use Rattle.engine.proofs.summary.places_ok.Goals as goal

pub returns-then-n-gt16 : goal.returns-then-n-gt16
unfolding places_ok
returns-then-n-gt16 c = rw (lt-leb _ _ c.if-n-gt16.true)

pub loop-i-init : goal.loop-i-init
loop-i-init c = lowest_start _

pub returns-then-not-is_point : goal.returns-then-not-is_point
unfolding places_ok
returns-then-not-is_point c =
    let at_loop = c.loop-i in
    let tested = rw (got w32 c.struct_told-1.given.0.1, got w32 c.struct_told-in-loop-i-1.given.1.0.1) at c.is_point.ensures in
    rw (
      le-leb _ _ c.if-n-gt16.false,
      lowest_hit _ at_loop.i c.args.h.len c.loop-i-test.true at_loop.invariant
          (rw (sym tested ∙ not-true _ c.if-not-is_point.true-raw)),
    )

pub loop-i-preserved : goal.loop-i-preserved
loop-i-preserved c =
    let at_loop = c.loop-i in
    let tested = rw (got w32 c.struct_told-1.given.0.1, got w32 c.struct_told-in-loop-i-1.given.1.0.1) at c.is_point.ensures in
    lowest_miss _ at_loop.i at_loop.invariant (rw (sym tested ∙ not-false _ c.if-not-is_point.false-raw))

pub returns : goal.returns
unfolding places_ok
returns c =
    let at_loop = c.loop-i in
    let end : at_loop.i ≡ c.args.h.len = omega arith in
    rw (le-leb _ _ c.if-n-gt16.false, rw end at at_loop.invariant)
