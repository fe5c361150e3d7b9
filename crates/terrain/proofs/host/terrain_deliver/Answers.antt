-- `host::terrain_deliver` meets its contract: the words' own call, its answer as a record.
use mathlib.Core.Path.{◌∙◌}
use Rattle.terrain.proofs.HostLaws.{deliver_told, deliver_words, deliver_arena}
use Rattle.terrain.proofs.host.terrain_deliver.Goals as goal

pub returns : goal.returns
returns c = record {
  value = rw (c.status.ensures, c.deliver.ensures.value) (deliver_told _ _ _ _);
  engine_after = c.deliver.ensures.ws_after ∙ deliver_words _ _ _ _;
  arena_after = c.deliver.ensures.arena_after ∙ deliver_arena _ _ _ _;
}
