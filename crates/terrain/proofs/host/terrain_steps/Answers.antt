-- `host::terrain_steps` meets its contract: words that no engine has are refused, else it is the engine's own call.
use Rattle.terrain.specs.Host.{steps}
use borrow.Author.Tests.{not-true, not-false}
use mathlib.Core.Path.{sym, ◌∙◌}
use Rattle.terrain.proofs.host.terrain_steps.Goals as goal

pub returns-then-not-r : goal.returns-then-not-r
unfolding steps
returns-then-not-r c = rw (sym c.read-r.ensures.0 ∙ not-true _ c.if-not-r.true, c.counted.ensures)

pub returns : goal.returns
unfolding steps
returns c = rw (sym c.read-r.ensures.0 ∙ not-false _ c.if-not-r.false, c.counted-2.ensures, c.steps.ensures, c.read-r.ensures.1)
