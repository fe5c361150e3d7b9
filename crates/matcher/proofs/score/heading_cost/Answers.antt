-- `matcher::score::heading_cost` meets its contract: the literal read as a whole number.
use Rattle.matcher.proofs.ScoreLiterals.{literal_35}
use Rattle.matcher.proofs.score.heading_cost.Goals as goal

pub returns : goal.returns
returns c = rw literal_35
