-- `predict::cost::cost_of` meets its contract: by its parts, in the definition's order.
use Rattle.predict.specs.Cost.{cost_of}
use Rattle.predict.proofs.cost.cost_of.Goals as goal

pub returns : goal.returns
unfolding cost_of
returns c =
    rw (
      c.with_cycleway.ensures,
      c.with_track-e.ensures,
      c.with_link-d.ensures,
      c.with_class-c.ensures,
      c.with_name-b.ensures,
      c.turn_cost-a.ensures,
    )
