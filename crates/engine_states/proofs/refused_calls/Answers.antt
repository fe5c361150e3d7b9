use Rattle.engine_states.proofs.Claims.{refused_calls}
use Rattle.engine_states.proofs.refused_calls.Goals as goal

pub returns : goal.returns
returns c = refused_calls
