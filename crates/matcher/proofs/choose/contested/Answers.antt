-- `matcher::choose::contested` meets its contract: each return by the test of the count.
use borrow.Author.Tests.{lt-ltb, le-ltb}
use Rattle.matcher.specs.Choose.{contested}
use Rattle.matcher.proofs.choose.contested.Goals as goal

pub returns-then-n-lt2 : goal.returns-then-n-lt2
unfolding contested
returns-then-n-lt2 c =
    rw (← c.beaten-n.ensures, lt-ltb _ _ c.if-n-lt2.true)

pub returns : goal.returns
unfolding contested
returns c = rw (← c.beaten-n.ensures, le-ltb _ _ c.if-n-lt2.false)
