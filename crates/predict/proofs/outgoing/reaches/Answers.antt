-- `predict::outgoing::reaches` meets its contract: by the answer of `step_of`, with the literal read as a whole number.
use Rattle.predict.specs.Outgoing.{reaches}
use Rattle.predict.proofs.CostLiterals.{literal_25}
use Rattle.predict.proofs.outgoing.reaches.Goals as goal

pub returns : goal.returns
unfolding reaches
returns c = rw (← literal_25, c.step_of.ensures)
