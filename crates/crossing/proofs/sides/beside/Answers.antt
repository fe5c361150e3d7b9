-- `crossing::sides::beside` meets its contract: each return by its tests, with the four areas read from their calls.
use borrow.Author.Tests.{lt-ltb, le-ltb}
use Rattle.crossing.specs.Sides.{beside}
use Rattle.crossing.proofs.sides.beside.Goals as goal

pub returns-then-c_right-c_left : goal.returns-then-c_right-c_left
unfolding beside
returns-then-c_right-c_left c =
    rw (← c.side-c_left.ensures, ← c.side-c_right.ensures, ← c.side-e_left.ensures, ← c.side-e_right.ensures, lt-ltb _ _ c.if-c_right-c_left.true)

pub returns-then-c_left-c_right : goal.returns-then-c_left-c_right
unfolding beside
returns-then-c_left-c_right c =
    rw (← c.side-c_left.ensures, ← c.side-c_right.ensures, ← c.side-e_left.ensures, ← c.side-e_right.ensures, le-ltb _ _ c.if-c_right-c_left.false, lt-ltb _ _ c.if-c_left-c_right.true)

pub returns : goal.returns
unfolding beside
returns c =
    rw (← c.side-c_left.ensures, ← c.side-c_right.ensures, ← c.side-e_left.ensures, ← c.side-e_right.ensures, le-ltb _ _ c.if-c_right-c_left.false, le-ltb _ _ c.if-c_left-c_right.false)
