-- `predict::incoming::keep_distance` meets its contract: each return by the test of the room, and the second by the answer of `shift_distances`.
use borrow.Author.Tests.{lt-ltb, le-ltb}
use Rattle.predict.specs.Incoming.{kept}
use Rattle.predict.proofs.incoming.keep_distance.Goals as goal

pub returns-then-n-lt16 : goal.returns-then-n-lt16
unfolding kept
returns-then-n-lt16 c = rw (lt-ltb _ _ c.if-n-lt16.true)

pub returns : goal.returns
unfolding kept
returns c = rw (c.shift_distances.ensures, le-ltb _ _ c.if-n-lt16.false)
