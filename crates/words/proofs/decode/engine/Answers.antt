-- `decode::engine` meets its contract.
use Rattle.words.specs.Words.{engine_of}
use Rattle.words.proofs.decode.engine.Goals as goal

pub returns : goal.returns
unfolding engine_of
returns c = rw (c.follower-follower.ensures, c.shared-shared.ensures)
