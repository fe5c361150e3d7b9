use Rattle.direct_witness.proofs.Witness.{witness}
use Rattle.direct_witness.proofs.not_empty.Goals as goal

pub returns : goal.returns
returns c = witness
