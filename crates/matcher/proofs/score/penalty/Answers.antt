-- `matcher::score::penalty` meets its contract: each return by its tests, with the literals read as whole numbers.
use Rattle.geo.proofs.Literals.{literal_0}
use Rattle.matcher.proofs.ScoreLiterals.{literal_4, literal_90}
use Rattle.matcher.proofs.score.penalty.Goals as goal
use Rattle.matcher.proofs.score.penalty.Goals.{else-oneway-via-then-oneway+else-ahead, else-oneway-via-else-oneway}

pub returns-then-ahead : goal.returns-then-ahead
returns-then-ahead c = rw (literal_4, ← literal_90, c.if-oneway.true, c.if-ahead.true)

pub returns : goal.returns
returns c =
    elim c.else-oneway.branch [
      | else-oneway-via-then-oneway+else-ahead w ↦ rw (literal_0, ← literal_90, w.if-oneway.true, w.if-ahead.false)
      | else-oneway-via-else-oneway w ↦ rw (literal_0, w.if-oneway.false)
    ]
