-- `host::terrain_heading` meets its contract: words that no engine has are refused, else it is the engine's own call.
use Rattle.terrain.specs.Host.{heading}
use borrow.Author.Tests.{not-true, not-false}
use mathlib.Core.Path.{sym, ◌∙◌}
use Rattle.terrain.proofs.host.terrain_heading.Goals as goal

pub returns-then-not-r : goal.returns-then-not-r
unfolding heading
returns-then-not-r c = rw (sym c.read-r.ensures.0 ∙ not-true _ c.if-not-r.true)

pub returns : goal.returns
unfolding heading
returns c = rw (sym c.read-r.ensures.0 ∙ not-false _ c.if-not-r.false, c.heading-2.ensures, c.heading.ensures, c.read-r.ensures.1)
