-- `matcher::gather::searched` meets its contract: the query is made of its parts.
use Rattle.matcher.specs.Gather.{searched}
use Rattle.matcher.proofs.gather.searched.Goals as goal

pub returns : goal.returns
unfolding searched
returns c = c.gather.ensures
