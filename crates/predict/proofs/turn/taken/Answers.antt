-- `predict::turn::taken` meets its contract: by the answer of the callee.
use Rattle.predict.specs.Walk.{with_ending, taken}
use Rattle.predict.proofs.turn.taken.Goals as goal

pub returns : goal.returns
unfolding with_ending taken
returns c = rw c.with_ending.ensures
