use Rattle.written_lookups.proofs.Found.{finds_each}
use Rattle.written_lookups.proofs.finds_each.Goals as goal

pub returns : goal.returns
returns c = finds_each
