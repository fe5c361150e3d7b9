-- `matcher::score::candidate_at` meets its contract: by the answers of the callees.
use mir.Syntax.{w32}
use Rattle.pack.proofs.Signed.{got}
use Rattle.matcher.specs.Score.{candidate_at}
use Rattle.matcher.proofs.score.candidate_at.Goals as goal

pub returns : goal.returns
unfolding candidate_at
returns c =
    rw (
      c.at_node.ensures,
      c.matched_at-found.ensures,
      got w32 c.height_at.type_inv,
      c.height_at.ensures,
      c.bonus-eased.ensures,
      c.aim_at-aimed.ensures,
      c.along_to-along_m.ensures,
      c.edge-edge.ensures,
    )
