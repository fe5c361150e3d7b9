use Rattle.engine_states.proofs.Claims.{between}
use Rattle.engine_states.proofs.between.Goals as goal

pub returns : goal.returns
returns c = between
