-- `engine::publish::without_match` meets its contract: the count by its callee, and the literal read as a whole number.
use Rattle.geo.proofs.Literals.{literal_0}
use Rattle.engine.specs.Publish.{without_match}
use Rattle.engine.proofs.publish.without_match.Goals as goal

pub returns : goal.returns
unfolding without_match
returns c = rw (literal_0, c.wrapping_add_u32.ensures.value)
