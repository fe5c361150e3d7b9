use Rattle.engine_states.proofs.Claims.{closed}
use Rattle.engine_states.proofs.closed.Goals as goal

pub returns : goal.returns
returns c = closed
