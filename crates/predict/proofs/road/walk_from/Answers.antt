-- `predict::road::walk_from` meets its contract: by the answers of its callees, with the literals read as whole numbers.
use Rattle.geo.proofs.Literals.{literal_0}
use Rattle.predict.specs.Predict.{walk_from}
use Rattle.predict.proofs.Literals.{literal_100}
use Rattle.predict.proofs.road.walk_from.Goals as goal

pub returns : goal.returns
unfolding walk_from
returns c = rw (c.f32_of_u8.ensures, c.first_of.ensures, literal_0, literal_100)
