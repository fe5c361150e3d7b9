use Rattle.direct.proofs.Claim.{all_same}
use Rattle.direct.proofs.all_same.Goals as goal

pub returns : goal.returns
returns c = all_same
