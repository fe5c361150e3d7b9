-- `decode::due` meets its contract.
use Rattle.words.specs.Words.{due_of}
use Rattle.words.proofs.decode.due.Goals as goal

pub returns : goal.returns
unfolding due_of
returns c = rw (c.short.ensures, c.maybe_key-need.ensures, c.time-last_road.ensures)
