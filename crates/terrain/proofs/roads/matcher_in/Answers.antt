-- `roads::matcher_in` meets its contract: what the callee ensures, of the records it is given.
use Rattle.words.specs.Words.{matcher_of}
use Rattle.terrain.proofs.roads.matcher_in.Goals as goal

pub returns : goal.returns
unfolding matcher_of
returns c =
    rw (c.current_in-current.ensures, c.challenger_in-challenger.ensures, c.byte.ensures, c.float.ensures)
