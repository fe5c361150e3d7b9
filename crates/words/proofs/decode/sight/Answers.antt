-- `decode::sight` meets its contract.
use Rattle.words.specs.Words.{sight_of}
use Rattle.words.proofs.decode.sight.Goals as goal

pub returns : goal.returns
unfolding sight_of
returns c = rw (c.long.ensures, c.heading-heading.ensures, c.places-history.ensures, c.fix-fix.ensures)
