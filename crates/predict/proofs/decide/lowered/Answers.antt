-- `predict::decide::lowered` meets its contract: the literals read as whole numbers.
use Rattle.geo.proofs.Literals.{literal_1}
use Rattle.predict.proofs.CostLiterals.{literal_4}
use Rattle.predict.proofs.decide.lowered.Goals as goal

pub returns : goal.returns
returns c = rw (c.min.ensures, literal_4, literal_1)
