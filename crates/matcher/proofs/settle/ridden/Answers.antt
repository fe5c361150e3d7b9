-- `matcher::settle::ridden` meets its contract: each return by the direction.
use Rattle.geo.proofs.Literals.{literal_0}
use Rattle.matcher.proofs.settle.ridden.Goals as goal

pub returns-then-b : goal.returns-then-b
returns-then-b c = rw (c.max.ensures, c.in-Some.is, c.if-b.true, literal_0)

pub returns-in-None : goal.returns-in-None
returns-in-None c = rw (c.in-None.is, literal_0)

pub returns-else-b : goal.returns-else-b
returns-else-b c = rw (c.max-in-Some.ensures, c.in-Some.is, c.if-b.false, literal_0)
