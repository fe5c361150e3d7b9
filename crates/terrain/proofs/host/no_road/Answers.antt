-- `host::no_road` meets its contract.
use Rattle.engine.specs.Publish.{nothing_ahead}
use Rattle.geo.proofs.Literals.{literal_0}
use Rattle.terrain.proofs.host.no_road.Goals as goal

pub returns : goal.returns
unfolding nothing_ahead
returns c = rw literal_0
