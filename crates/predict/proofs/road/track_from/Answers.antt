-- `predict::road::track_from` meets its contract: by the answer of its callee, with the literal read as a whole number.
use Rattle.geo.proofs.Literals.{literal_0}
use Rattle.predict.specs.Predict.{track_from}
use Rattle.predict.proofs.road.track_from.Goals as goal

pub returns : goal.returns
unfolding track_from
returns c = rw (c.first-history.ensures, literal_0)
