-- `decode::shared` meets its contract.
use Rattle.words.specs.Words.{shared_of}
use Rattle.words.proofs.decode.shared.Goals as goal

pub returns : goal.returns
unfolding shared_of
returns c = rw (c.cache-cache.ensures, c.header-header.ensures, c.phase-phase.ensures)
