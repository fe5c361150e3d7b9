-- `matcher::score::limited` meets its contract: each return by the direction held.
use Rattle.matcher.proofs.ScoreLiterals.{literal_60}
use Rattle.matcher.proofs.score.limited.Goals as goal

pub returns-in-Some : goal.returns-in-Some
returns-in-Some c = rw (c.in-Some.is, ← literal_60) c.min.ensures
