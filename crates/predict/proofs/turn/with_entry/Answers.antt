-- `predict::turn::with_entry` meets its contract: the fields as they were, but for the two headings.
use mathlib.Core.Path.{refl}
use Rattle.predict.specs.Walk.{with_entry}
use Rattle.predict.proofs.turn.with_entry.Goals as goal

pub returns : goal.returns
unfolding with_entry
returns c = refl
