-- `engine::fixes::push` meets its contract: each return by the test of the room, and the second by the answer of `shift`.
use Rattle.std.proofs.Common.{le-ltb, lt-ltb}
use Rattle.engine.specs.Fixes.{push}
use Rattle.engine.proofs.fixes.push.Goals as goal

pub returns-then-h-lt16 : goal.returns-then-h-lt16
unfolding push
returns-then-h-lt16 c = rw (lt-ltb _ _ c.if-h-lt16.true)

pub returns : goal.returns
unfolding push
returns c = rw (c.shift-d.ensures, le-ltb _ _ c.if-h-lt16.false)
