use Rattle.direct.proofs.Cores.{all_cores}
use Rattle.direct.proofs.all_cores.Goals as goal

pub returns : goal.returns
returns c = all_cores
