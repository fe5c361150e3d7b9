use Rattle.direct.proofs.Settled.{all_settled}
use Rattle.direct.proofs.all_settled.Goals as goal

pub returns : goal.returns
returns c = all_settled
