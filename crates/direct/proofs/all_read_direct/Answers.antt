use Rattle.direct.proofs.Published.{all_read_direct}
use Rattle.direct.proofs.all_read_direct.Goals as goal

pub returns : goal.returns
returns c = all_read_direct
