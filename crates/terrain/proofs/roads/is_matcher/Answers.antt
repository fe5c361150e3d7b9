-- `roads::is_matcher` meets its contract: what the callee ensures, of the records it is given.
-- `roads::is_matcher` meets its contract: what is read from the words, its words, and whether they are the same.
use Rattle.terrain.specs.Roads.{is_matcher}
use Rattle.terrain.proofs.roads.is_matcher.Goals as goal

pub returns : goal.returns
unfolding is_matcher
returns c = rw (c.matcher_out-again.ensures, c.matcher_in.ensures) at c.same.ensures
