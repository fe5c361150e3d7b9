-- `parts::leave` meets its contract: of accepted words, those with another cache in its place are the words of the engine with that cache.
use mathlib.Core.Path.{◌∙◌}
use Rattle.terrain.proofs.PartLaws.{cache_left}
use Rattle.terrain.proofs.parts.leave.Goals as goal

pub returns : goal.returns
returns c = c.put_cache.ensures ∙ cache_left _ _ c.requires
