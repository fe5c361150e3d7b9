-- `predict::incoming::keep` meets its contract: each return by the test of the room, and the second by the answer of `shift`.
use borrow.Author.Tests.{lt-ltb, le-ltb}
use mir.Facts.{to_z-of_z}
use Rattle.predict.specs.Incoming.{kept}
use Rattle.predict.proofs.incoming.keep.Goals as goal

pub returns-then-n-lt16 : goal.returns-then-n-lt16
unfolding kept
returns-then-n-lt16 c = rw (to_z-of_z c.ranges.x, lt-ltb _ _ c.if-n-lt16.true)

pub returns : goal.returns
unfolding kept
returns c = rw (to_z-of_z c.ranges.x, c.shift.ensures, le-ltb _ _ c.if-n-lt16.false)
