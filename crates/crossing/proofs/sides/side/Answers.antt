-- `crossing::sides::side` meets its contract: places are below 2^30, so each product is below 2^60 and the sum fits 64 bits.
use mathlib.Core.Path.{refl}
use Rattle.crossing.specs.Sides.{side}
use Rattle.crossing.proofs.sides.side.Goals as goal

pub returns : goal.returns
unfolding side
returns c = refl
