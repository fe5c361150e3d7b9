-- `parts::held` meets its contract: what the callees ensure.
use mathlib.Core.Path.{◌∙◌}
use Rattle.terrain.proofs.PartLaws.{cache_held}
use Rattle.terrain.proofs.parts.held.Goals as goal

pub returns : goal.returns
returns c = record {
  accepted_value = c.accepted-accepted.ensures;
  cache_value = c.cache-cache.ensures ∙ cache_held _;
}
