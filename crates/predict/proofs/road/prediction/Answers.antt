-- `predict::road::prediction` meets its contract: by the answers of its callees, with the literals read as whole numbers.
use Rattle.geo.proofs.Literals.{literal_0}
use Rattle.predict.specs.Predict.{prediction}
use Rattle.predict.proofs.Literals.{literal_100}
use Rattle.predict.proofs.road.prediction.Goals as goal

pub returns : goal.returns
unfolding prediction
returns c = rw (c.u8_of_f32.ensures, c.clamp-sure.ensures, literal_0, literal_100)
