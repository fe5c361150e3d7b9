use Rattle.direct.proofs.Last.{all_last}
use Rattle.direct.proofs.all_last.Goals as goal

pub returns : goal.returns
returns c = all_last
