-- `engine::deliver::part_came` meets its contract: by what the cache's step left.
use Rattle.engine.specs.Deliver.{part_came}
use Rattle.engine.proofs.deliver.part_came.Goals as goal

pub returns : goal.returns
unfolding part_came
returns c = record {
  value = rw (c.loaded.ensures, c.loaded-l.ensures.value);
  arena_after = c.loaded-l.ensures.arena_after;
}
