-- `host::terrain_new` meets its contract.
use Rattle.terrain.specs.Host.{new}
use Rattle.terrain.proofs.host.terrain_new.Goals as goal

pub returns : goal.returns
unfolding new
returns c = rw (c.write.ensures, c.new-e.ensures)
