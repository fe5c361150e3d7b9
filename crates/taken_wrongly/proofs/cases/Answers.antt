use Rattle.taken_wrongly.proofs.Proved.{cases}
use Rattle.taken_wrongly.proofs.cases.Goals as goal

pub returns : goal.returns
returns c = cases
