-- `matcher::keep::place_of` meets its contract: each return by the tests before it.
use borrow.Author.Tests.{lt-ltb, le-ltb}
use Rattle.matcher.specs.Placing.{place_of}
use Rattle.matcher.proofs.keep.place_of.Goals as goal

pub returns-then-k-lt8 : goal.returns-then-k-lt8
unfolding place_of
returns-then-k-lt8 c = rw (lt-ltb _ _ c.if-k-lt8.true)

pub returns-then-cost-worst : goal.returns-then-cost-worst
unfolding place_of
returns-then-cost-worst c =
    rw (le-ltb _ _ c.if-k-lt8.false, ← c.dearest_of-worst.ensures, c.if-cost-worst.true)

pub returns : goal.returns
unfolding place_of
returns c =
    rw (le-ltb _ _ c.if-k-lt8.false, ← c.dearest_of-worst.ensures, c.if-cost-worst.false)
