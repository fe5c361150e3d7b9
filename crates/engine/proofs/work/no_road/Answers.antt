-- `engine::work::no_road` meets its contract: the literal read as a whole number.
use Rattle.geo.proofs.Literals.{literal_0}
use Rattle.engine.proofs.work.no_road.Goals as goal

pub returns : goal.returns
returns c = rw literal_0
