-- `predict::twins::push` meets its contract: each return by the test of the room.
use borrow.Author.Tests.{le-leb, lt-leb}
use Rattle.predict.specs.Twins.{push}
use Rattle.predict.proofs.twins.push.Goals as goal

pub returns-then-t-ge8 : goal.returns-then-t-ge8
unfolding push
returns-then-t-ge8 c = rw (le-leb _ _ c.if-t-ge8.true)

pub returns : goal.returns
unfolding push
returns c = rw (lt-leb _ _ c.if-t-ge8.false)
