-- `decode::matcher` meets its contract.
use Rattle.words.specs.Words.{matcher_of}
use Rattle.words.proofs.decode.matcher.Goals as goal

pub returns : goal.returns
unfolding matcher_of
returns c = rw (c.float.ensures, c.byte.ensures, c.challenger-challenger.ensures, c.current-current.ensures)
