-- `predict::incoming::back_part` meets its contract: each return by the test of the two distances, with the literals read as whole numbers.
use Rattle.geo.proofs.Literals.{literal_0, literal_1}
use Rattle.predict.proofs.CostLiterals.{literal_25}
use Rattle.predict.proofs.incoming.back_part.Goals as goal

pub returns-then-to-from : goal.returns-then-to-from
returns-then-to-from c = rw (← literal_0, ← literal_1, ← literal_25, c.if-to-from.true) c.clamp.ensures

pub returns : goal.returns
returns c = rw (← literal_0, c.if-to-from.false)
