use Rattle.direct.proofs.Claim.{all_direct}
use Rattle.direct.proofs.all_direct.Goals as goal

pub returns : goal.returns
returns c = all_direct
