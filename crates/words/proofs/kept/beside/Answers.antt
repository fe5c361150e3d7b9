-- `kept::beside` meets its contract: by how many words there are, and piece by piece.
use Rattle.std.proofs.Common.{eq-eqb}
use Rattle.words.specs.Held.{beside}
use Rattle.words.proofs.kept.beside.Goals as goal

pub returns : goal.returns
unfolding beside
returns c = rw (← c.count.ensures, eq-eqb _ _ c.if-count-ne-WORDS.false, c.both.ensures, c.follower.ensures, c.shared.ensures)
