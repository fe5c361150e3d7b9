-- `predict::spots::node_at` meets its contract: each field is what its reader ensures, at the place that `spot_of` gives.
use Rattle.tile.specs.Layout.{place_at}
use Rattle.predict.proofs.SpotLaws.{node_is}
use Rattle.predict.proofs.spots.node_at.Goals as goal

pub returns : goal.returns
unfolding place_at
returns c =
    rw (c.u16_at.ensures, c.u16_at-2.ensures, c.u16_at-3.ensures, c.spot_of-at.ensures.value, c.requires.base_value)
    (node_is c.args.leg c.args.bytes.now c.args.i)
