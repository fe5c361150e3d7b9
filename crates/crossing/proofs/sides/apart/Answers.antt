-- `crossing::sides::apart` meets its contract: each return by its test, with the two limits read from their calls.
use borrow.Author.Tests.{lt-ltb, le-ltb}
use Rattle.crossing.specs.Sides.{apart}
use Rattle.crossing.proofs.sides.apart.Goals as goal

pub returns-then-high-low : goal.returns-then-high-low
unfolding apart
returns-then-high-low c =
    rw (lt-ltb _ _ (rw (c.high.ensures, c.low.ensures) at c.if-high-low.true))

pub returns : goal.returns
unfolding apart
returns c =
    rw (le-ltb _ _ (rw (c.high.ensures, c.low.ensures) at c.if-high-low.false), c.high-2.ensures, c.low-2.ensures)
