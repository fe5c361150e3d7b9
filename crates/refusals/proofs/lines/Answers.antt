use Rattle.refusals.proofs.Table.{lines}
use Rattle.refusals.proofs.lines.Goals as goal

pub returns : goal.returns
returns c = lines
