-- `engine::Engine::new` meets its contract: each part by the answer of its callee.
use Rattle.engine.specs.Calls.{new}
use Rattle.engine.proofs.Engine.new.Goals as goal

pub returns : goal.returns
unfolding new
returns c = rw (c.fresh-follower.ensures, c.unread-shared.ensures, c.new-cache.ensures)
