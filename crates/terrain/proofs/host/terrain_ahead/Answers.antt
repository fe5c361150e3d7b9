-- `host::terrain_ahead` meets its contract: words that no engine has are refused, else it is the engine's own call.
use Rattle.terrain.specs.Host.{ahead}
use borrow.Author.Tests.{not-true, not-false}
use mathlib.Core.Path.{sym, ◌∙◌}
use Rattle.terrain.proofs.host.terrain_ahead.Goals as goal

pub returns-then-not-r : goal.returns-then-not-r
unfolding ahead
returns-then-not-r c = rw (sym c.read-r.ensures.0 ∙ not-true _ c.if-not-r.true, c.ahead.ensures)

pub returns : goal.returns
unfolding ahead
returns c = rw (sym c.read-r.ensures.0 ∙ not-false _ c.if-not-r.false, c.ahead-3.ensures, c.ahead-2.ensures, c.read-r.ensures.1)
