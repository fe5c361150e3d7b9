-- `matcher::nearby` meets its contract: each return by the refusals tested before it, the point's numbers read back from their bits.
use mathlib.Core.Path.{sym, ◌∙◌}
use mir.Syntax.{w32}
use borrow.Author.Tests.{not-true, not-false}
use Rattle.pack.proofs.Signed.{got}
use Rattle.matcher.specs.Calls.{nearby}
use Rattle.matcher.proofs.nearby.Goals as goal

pub returns-then-not-rules : goal.returns-then-not-rules
unfolding nearby
returns-then-not-rules c = rw (sym c.rules.ensures ∙ not-true _ c.if-not-rules.true-raw, c.no_keys.ensures)

pub returns-then-not-is_point : goal.returns-then-not-is_point
unfolding nearby
returns-then-not-is_point c =
    let tested = rw (got w32 c.struct_told-1.given.0.1, got w32 c.struct_told-2-1.given.1.0.1) at c.is_point.ensures in
    rw (
      sym c.rules.ensures ∙ not-false _ c.if-not-rules.false-raw,
      sym tested ∙ not-true _ c.if-not-is_point.true-raw,
      c.no_keys-then-not-is_point.ensures,
    )

pub returns : goal.returns
unfolding nearby
returns c =
    let tested = rw (got w32 c.struct_told-1.given.0.1, got w32 c.struct_told-2-1.given.1.0.1) at c.is_point.ensures in
    rw (
      sym c.rules.ensures ∙ not-false _ c.if-not-rules.false-raw,
      sym tested ∙ not-false _ c.if-not-is_point.false-raw,
      c.near_of.ensures,
    )
