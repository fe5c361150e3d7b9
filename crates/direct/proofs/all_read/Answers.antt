use Rattle.direct.proofs.Published.{all_read}
use Rattle.direct.proofs.all_read.Goals as goal

pub returns : goal.returns
returns c = all_read
