-- `host::terrain_header` meets its contract: words that no engine has are refused, else it is the engine's own call.
use Rattle.terrain.specs.Host.{header}
use borrow.Author.Tests.{not-true, not-false}
use mathlib.Core.Path.{sym, ◌∙◌}
use Rattle.terrain.proofs.host.terrain_header.Goals as goal

pub returns-then-not-r : goal.returns-then-not-r
unfolding header
returns-then-not-r c = rw (sym c.read-r.ensures.0 ∙ not-true _ c.if-not-r.true, c.header.ensures)

pub returns : goal.returns
unfolding header
returns c = rw (sym c.read-r.ensures.0 ∙ not-false _ c.if-not-r.false, c.header-3.ensures, c.header-2.ensures, c.read-r.ensures.1)
