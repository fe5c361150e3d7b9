-- `circle::quarter` meets its contract: the patterns are in the order of the magnitudes, and an arc is at most 45 degrees.
use Rattle.std.proofs.Common.{◌∙◌, arith, le-leb}
use borrow.Author.Tests.{lt-leb}
use Rattle.angle.specs.Bearing.{quarter}
use Rattle.angle.proofs.Magnitude.{pattern_order}
use Rattle.angle.proofs.Arc.{arc_most}
use Rattle.angle.proofs.circle.quarter.Goals as goal

pub returns-then-east-north : goal.returns-then-east-north
unfolding quarter
returns-then-east-north c =
    let order = pattern_order c.args.east c.args.north c.requires.1.0 c.requires.1.1 ∙ le-leb _ _ c.if-east-north.true in
    (rw (order, c.arc.ensures, c.ratio.ensures.0), omega (arith, c.arc.ensures, arc_most c.ratio.result))

pub overflow_sub-result : goal.overflow_sub-result
overflow_sub-result c = omega (arith, c.arc-else-east-north.ensures, arc_most c.ratio-else-east-north.result)

pub returns-else-east-north : goal.returns-else-east-north
unfolding quarter
returns-else-east-north c =
    let order = pattern_order c.args.east c.args.north c.requires.1.0 c.requires.1.1 ∙ lt-leb _ _ c.if-east-north.false in
    (rw (order, c.arc-else-east-north.ensures, c.ratio-else-east-north.ensures.0), omega arith)
