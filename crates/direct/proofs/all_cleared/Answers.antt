use Rattle.direct.proofs.Due.{all_cleared}
use Rattle.direct.proofs.all_cleared.Goals as goal

pub returns : goal.returns
returns c = all_cleared
