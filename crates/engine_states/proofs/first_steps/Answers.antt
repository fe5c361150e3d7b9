use Rattle.engine_states.proofs.Claims.{first_steps}
use Rattle.engine_states.proofs.first_steps.Goals as goal

pub returns : goal.returns
returns c = first_steps
