-- `predict::follow::reached` meets its contract: by the answer of the callee.
use Rattle.predict.specs.Walk.{reached}
use Rattle.predict.proofs.follow.reached.Goals as goal

pub returns : goal.returns
unfolding reached
returns c = rw c.with_ending.ensures
