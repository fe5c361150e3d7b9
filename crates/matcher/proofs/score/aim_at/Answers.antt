-- `matcher::score::aim_at` meets its contract: by the answers of the callees.
use Rattle.matcher.proofs.ScoreLiterals.{literal_15}
use Rattle.matcher.specs.Score.{aim_at}
use Rattle.matcher.proofs.score.aim_at.Goals as goal

pub returns : goal.returns
unfolding aim_at
returns c =
    rw (
      c.aim.ensures,
      c.has.ensures,
      c.held_on-held.ensures,
      c.bearing-bearing.ensures,
      literal_15,
    )
