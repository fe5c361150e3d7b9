-- `decode::follower` meets its contract.
use Rattle.words.specs.Words.{follower_of}
use Rattle.words.proofs.decode.follower.Goals as goal

pub returns : goal.returns
unfolding follower_of
returns c = rw (c.float.ensures, c.byte.ensures, c.ahead-ahead.ensures, c.due-due.ensures, c.matcher-matcher.ensures, c.sight-sight.ensures)
