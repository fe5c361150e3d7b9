-- `engine::state::forgotten` meets its contract: each part by the answer of its callee.
use Rattle.engine.specs.State.{forgotten}
use Rattle.engine.proofs.state.forgotten.Goals as goal

pub returns : goal.returns
unfolding forgotten
returns c = rw (c.reset-follower.ensures, c.unread-shared.ensures, c.cleared-c.ensures)
