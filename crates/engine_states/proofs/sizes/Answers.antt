use Rattle.engine_states.proofs.Claims.{sizes}
use Rattle.engine_states.proofs.sizes.Goals as goal

pub returns : goal.returns
returns c = sizes
