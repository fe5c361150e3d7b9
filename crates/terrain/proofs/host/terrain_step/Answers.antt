-- `host::terrain_step` meets its contract: the words' own call, its answer as a record.
use mathlib.Core.Path.{◌∙◌}
use Rattle.terrain.proofs.HostLaws.{step_told, step_words}
use Rattle.terrain.proofs.host.terrain_step.Goals as goal

pub returns : goal.returns
returns c = record {
  value = rw (c.status.ensures, c.step.ensures.value) (step_told _ _);
  engine_after = c.step.ensures.ws_after ∙ step_words _ _;
}
