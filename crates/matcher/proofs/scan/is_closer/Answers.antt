-- `matcher::scan::is_closer` meets its contract: each return by its tests, with the literal read as a whole number.
use Rattle.matcher.proofs.ScoreLiterals.{literal_40}
use Rattle.matcher.proofs.scan.is_closer.Goals as goal

pub returns-in-None : goal.returns-in-None
returns-in-None c = rw (← literal_40, c.if-distance.true, c.in-None.is)

pub returns-in-Some : goal.returns-in-Some
returns-in-Some c = rw (← literal_40, c.if-distance.true, c.in-Some.is)

pub returns : goal.returns
returns c = rw (← literal_40, c.if-distance.false)
