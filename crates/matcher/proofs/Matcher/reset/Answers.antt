-- `matcher::Matcher::reset` meets its contract: the literal read as a whole number.
use Rattle.geo.proofs.Literals.{literal_0}
use Rattle.matcher.proofs.Matcher.reset.Goals as goal

pub returns : goal.returns
returns c = rw literal_0
