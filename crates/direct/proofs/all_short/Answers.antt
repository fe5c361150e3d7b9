use Rattle.direct.proofs.Claim.{all_short}
use Rattle.direct.proofs.all_short.Goals as goal

pub returns : goal.returns
returns c = all_short
