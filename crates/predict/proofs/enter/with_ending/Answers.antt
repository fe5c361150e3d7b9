-- `predict::enter::with_ending` meets its contract: the fields as they were, but for the ending.
use mathlib.Core.Path.{refl}
use Rattle.predict.specs.Walk.{with_ending}
use Rattle.predict.proofs.enter.with_ending.Goals as goal

pub returns : goal.returns
unfolding with_ending
returns c = refl
