-- `predict::turn::next_by` meets its contract: each return by the lookup's answer.
use Rattle.std.proofs.Common.{ap, ◌∙◌}
use Rattle.cache.specs.declared.Lookup.{Lookup}
use Rattle.std.specs.Prelude.{Ok}
use Rattle.predict.specs.Walk.{on_road}
use Rattle.predict.proofs.turn.next_by.Goals as goal

pub returns-in-Ok-Ready : goal.returns-in-Ok-Ready
unfolding on_road
returns-in-Ok-Ready c = rw ((c.in-Ok-Ready.is ∙ ap (λ (l : Lookup). Ok l) (rw c.in-Ok-Ready.is at c.in-Ok-Ready.field-0-is)), c.road_of-road.ensures, c.edge-next.ensures, c.run_bytes.ensures)
