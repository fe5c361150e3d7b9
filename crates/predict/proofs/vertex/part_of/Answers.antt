-- `predict::vertex::part_of` meets its contract: each return by its test, with the literals read as whole numbers.
use Rattle.geo.proofs.Literals.{literal_0, literal_1}
use Rattle.predict.proofs.vertex.part_of.Goals as goal

pub returns-then-step : goal.returns-then-step
returns-then-step c = rw (c.clamp.ensures, ← literal_0, c.if-step.true, literal_1)

pub returns : goal.returns
returns c = rw (← literal_0, c.if-step.false, literal_1)
