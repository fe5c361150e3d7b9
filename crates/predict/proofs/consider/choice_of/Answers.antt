-- `predict::consider::choice_of` meets its contract: by its parts, in the definition's order.
use Rattle.predict.specs.Consider.{choice_of}
use Rattle.predict.proofs.consider.choice_of.Goals as goal

pub returns : goal.returns
unfolding choice_of
returns c =
    rw (c.cost_of.ensures, c.outgoing_of-heading.ensures, c.head-head.ensures, c.edge-edge.ensures)
