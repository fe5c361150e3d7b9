-- `host::road` meets its contract, field by field.
use Rattle.terrain.specs.Host.{road_told}
use Rattle.pack.proofs.Signed.{got}
use mir.Syntax.{w32}
use Rattle.terrain.proofs.host.road.Goals as goal

pub returns : goal.returns
unfolding road_told
returns c = rw (c.bit.ensures, c.on_road.ensures, c.end.ensures, c.current-matched.ensures, got w32 c.struct_told-1.given.1.1.1.0.1)
