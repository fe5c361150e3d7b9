-- `predict::choose::no_choice` meets its contract: the literal read as a whole number.
use Rattle.geo.proofs.Literals.{literal_0}
use Rattle.predict.proofs.choose.no_choice.Goals as goal

pub returns : goal.returns
returns c = rw literal_0
