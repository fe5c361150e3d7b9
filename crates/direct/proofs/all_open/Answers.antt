use Rattle.direct.proofs.Claim.{all_open}
use Rattle.direct.proofs.all_open.Goals as goal

pub returns : goal.returns
returns c = all_open
