-- `matcher::score::keeps_forward` meets its contract: each return by the direction held.
use Rattle.matcher.proofs.ScoreLiterals.{literal_135}
use Rattle.matcher.proofs.score.keeps_forward.Goals as goal

pub returns-then-forward : goal.returns-then-forward
returns-then-forward c = rw (literal_135, c.in-Some.is, c.if-forward.true)

pub returns-else-forward : goal.returns-else-forward
returns-else-forward c = rw (literal_135, c.in-Some.is, c.if-forward.false)
