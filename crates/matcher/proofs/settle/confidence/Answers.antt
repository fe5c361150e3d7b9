-- `matcher::settle::confidence` meets its contract: by the answers of the callees, with the literals read as whole numbers.
use Rattle.geo.proofs.Literals.{literal_0, literal_1}
use Rattle.matcher.proofs.ScoreLiterals.{literal_40}
use Rattle.matcher.specs.Settle.{confidence}
use Rattle.matcher.proofs.Literals.{literal_2, literal_100}
use Rattle.matcher.proofs.settle.confidence.Goals as goal

pub returns : goal.returns
unfolding confidence
returns c =
    rw (
      c.u8_of_f32.ensures,
      c.steadiness-steady.ensures,
      c.clamp-clear.ensures,
      c.clamp-near.ensures,
      literal_0,
      literal_1,
      literal_2,
      literal_40,
      literal_100,
    )
