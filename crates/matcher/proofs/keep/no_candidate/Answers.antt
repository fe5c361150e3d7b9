-- `matcher::keep::no_candidate` meets its contract: the literal read as a whole number.
use Rattle.geo.proofs.Literals.{literal_0}
use Rattle.matcher.proofs.keep.no_candidate.Goals as goal

pub returns : goal.returns
returns c = rw literal_0
