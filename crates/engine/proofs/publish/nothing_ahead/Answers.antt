-- `engine::publish::nothing_ahead` meets its contract: the literal read as a whole number.
use Rattle.geo.proofs.Literals.{literal_0}
use Rattle.engine.specs.Publish.{nothing_ahead}
use Rattle.engine.proofs.publish.nothing_ahead.Goals as goal

pub returns : goal.returns
unfolding nothing_ahead
returns c = rw literal_0
