use Rattle.direct.proofs.Settled.{all_rested}
use Rattle.direct.proofs.all_rested.Goals as goal

pub returns : goal.returns
returns c = all_rested
