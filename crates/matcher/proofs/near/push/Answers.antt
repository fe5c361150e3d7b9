-- `matcher::near::push` meets its contract: each return by the test of the room.
use borrow.Author.Tests.{le-leb, lt-leb}
use Rattle.matcher.specs.Near.{push}
use Rattle.matcher.proofs.near.push.Goals as goal

pub returns-then-n-ge4 : goal.returns-then-n-ge4
unfolding push
returns-then-n-ge4 c = rw (le-leb _ _ c.if-n-ge4.true)

pub returns : goal.returns
unfolding push
returns c = rw (lt-leb _ _ c.if-n-ge4.false)
