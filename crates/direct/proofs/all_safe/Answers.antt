use Rattle.direct.proofs.Claim.{all_safe}
use Rattle.direct.proofs.all_safe.Goals as goal

pub returns : goal.returns
returns c = all_safe
