-- `matcher::settle::steadiness` meets its contract: each return by whether there is a heading.
use Rattle.geo.proofs.Literals.{literal_1}
use Rattle.matcher.proofs.settle.steadiness.Goals as goal

pub returns-in-Degrees : goal.returns-in-Degrees
returns-in-Degrees c = rw (c.in-Degrees.is, literal_1)
