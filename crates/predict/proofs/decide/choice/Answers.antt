-- `predict::decide::choice` meets its contract: each return by the tests before it, with the literal read as a whole number. Assumes
-- nothing.
use Rattle.geo.proofs.Literals.{literal_1}
use Rattle.predict.proofs.decide.choice.Goals as goal

pub returns-then-margin : goal.returns-then-margin
returns-then-margin c = rw (rw literal_1 at c.if-margin.true, c.stop.ensures)

pub returns-then-left : goal.returns-then-left
returns-then-left c =
    rw (rw literal_1 at c.if-margin.false, rw c.lowered-left.ensures at c.if-left.true, c.stop-then-left.ensures, c.lowered-left.ensures)

pub returns : goal.returns
returns c =
    rw (rw literal_1 at c.if-margin.false, rw c.lowered-left.ensures at c.if-left.false, c.go.ensures, c.lowered-left.ensures)
