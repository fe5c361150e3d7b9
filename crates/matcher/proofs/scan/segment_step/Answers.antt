-- `matcher::scan::segment_step` meets its contract: each return by the tests before it.
use mathlib.Core.Path.{sym, ◌∙◌}
use Rattle.geo.proofs.Literals.{literal_0}
use Rattle.matcher.specs.Scan.{segment_step}
use Rattle.matcher.proofs.scan.segment_step.Goals as goal

pub returns-then-rejected : goal.returns-then-rejected
unfolding segment_step
returns-then-rejected c = rw (sym c.rejected.ensures ∙ c.if-rejected.true)

pub returns-then-is_closer : goal.returns-then-is_closer
unfolding segment_step
returns-then-is_closer c =
    rw (
      ← literal_0,
      sym c.rejected.ensures ∙ c.if-rejected.false,
      ← c.project-p.ensures,
      sym c.is_closer.ensures ∙ c.if-is_closer.true,
    )

pub returns : goal.returns
unfolding segment_step
returns c =
    rw (
      ← literal_0,
      sym c.rejected.ensures ∙ c.if-rejected.false,
      ← c.project-p.ensures,
      sym c.is_closer.ensures ∙ c.if-is_closer.false,
    )
