use Rattle.written_lookups.proofs.Found.{finds_no_other}
use Rattle.written_lookups.proofs.finds_no_other.Goals as goal

pub returns : goal.returns
returns c = finds_no_other
