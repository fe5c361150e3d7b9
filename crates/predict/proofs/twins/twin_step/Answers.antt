-- `predict::twins::twin_step` meets its contract: each return by the tests before it.
use mathlib.Core.Path.{sym, ◌∙◌}
use mir.Syntax.{w64}
use borrow.Author.Tests.{eq-eqb, ne_eqb, not-true, not-false}
use Rattle.pack.proofs.Signed.{got}
use Rattle.predict.specs.Twins.{twin_step}
use Rattle.predict.proofs.twins.twin_step.Goals as goal

pub returns-then-i-eq0 : goal.returns-then-i-eq0
unfolding twin_step
returns-then-i-eq0 c = rw (eq-eqb _ _ c.if-i-eq0.true)

pub returns-then-not-shares : goal.returns-then-not-shares
unfolding twin_step
returns-then-not-shares c = rw (ne_eqb _ _ c.if-i-eq0.false, sym c.shares.ensures ∙ not-true _ c.if-not-shares.true-raw)

pub returns-then-not-shares-2 : goal.returns-then-not-shares-2
unfolding twin_step
returns-then-not-shares-2 c =
    rw (
      ne_eqb _ _ c.if-i-eq0.false,
      sym c.shares.ensures ∙ not-false _ c.if-not-shares.false-raw,
      sym c.shares-2.ensures ∙ not-true _ c.if-not-shares-2.true-raw,
    )

pub returns : goal.returns
unfolding twin_step
returns c =
    rw (
      ne_eqb _ _ c.if-i-eq0.false,
      sym c.shares.ensures ∙ not-false _ c.if-not-shares.false-raw,
      sym c.shares-2.ensures ∙ not-false _ c.if-not-shares-2.false-raw,
      c.push.ensures,
      ← c.side_of-col.ensures,
      ← c.side_of-row.ensures,
      got w64 c.struct_told-1.given.0.1,
      got w64 c.struct_told-2-1.given.0.1,
    )
