-- `matcher::score::matched_at` meets its contract: the height read back from its bits, the literal as a whole number.
use mir.Facts.{to_z-of_z}
use Rattle.geo.proofs.Literals.{literal_0}
use Rattle.matcher.proofs.score.matched_at.Goals as goal

pub returns : goal.returns
returns c = rw (literal_0, to_z-of_z c.ranges.z_dm)
