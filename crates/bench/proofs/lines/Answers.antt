use Rattle.bench.proofs.Table.{lines}
use Rattle.bench.proofs.lines.Goals as goal

pub returns : goal.returns
returns c = lines
