-- `matcher::gather::finished` meets its contract: by the answers of the callees.
use Rattle.matcher.specs.Gather.{finished}
use Rattle.matcher.proofs.gather.finished.Goals as goal

pub returns : goal.returns
unfolding finished
returns c = rw (c.outcome.ensures, c.matched-next.ensures)
