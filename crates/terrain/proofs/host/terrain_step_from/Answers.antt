-- `host::terrain_step_from` meets its contract: the words' own call, its answer as a record.
use mathlib.Core.Path.{◌∙◌}
use Rattle.terrain.proofs.HostLaws.{from_told, from_words, from_arena}
use Rattle.terrain.proofs.host.terrain_step_from.Goals as goal

pub returns : goal.returns
returns c = record {
  value = rw (c.status.ensures, c.step_from.ensures.value) (from_told _ _ _);
  engine_after = c.step_from.ensures.ws_after ∙ from_words _ _ _;
  arena_after = c.step_from.ensures.arena_after ∙ from_arena _ _ _;
}
