-- `predict::cost::with_track` meets its contract: each return by the pair of tests, with the literal read as a whole number.
use mathlib.Core.Path.{sym, ◌∙◌}
use borrow.Author.Tests.{not-true}
use Rattle.predict.proofs.CostLiterals.{literal_2}
use Rattle.predict.proofs.cost.with_track.Goals as goal

pub returns-then-not-off_road : goal.returns-then-not-off_road
returns-then-not-off_road c =
    rw (
      sym c.off_road.ensures ∙ c.if-off_road.true,
      sym c.off_road-then-off_road.ensures ∙ not-true _ c.if-not-off_road.true-raw,
      literal_2,
    )
