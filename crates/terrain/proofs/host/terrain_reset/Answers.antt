-- `host::terrain_reset` meets its contract: words that no engine has are refused, else it is the engine's own call.
use Rattle.terrain.specs.Host.{reset}
use borrow.Author.Tests.{not-true, not-false}
use mathlib.Core.Path.{sym, ◌∙◌}
use Rattle.terrain.proofs.host.terrain_reset.Goals as goal

pub returns-then-not-r : goal.returns-then-not-r
unfolding reset
returns-then-not-r c = record {
  value = rw (sym c.read-r.ensures.0 ∙ not-true _ c.if-not-r.true);
  engine_after = rw (sym c.read-r.ensures.0 ∙ not-true _ c.if-not-r.true);
}

pub returns : goal.returns
unfolding reset
returns c = record {
  value = rw (sym c.read-r.ensures.0 ∙ not-false _ c.if-not-r.false, c.changed.ensures.value, c.reset-c.ensures, c.read-r.ensures.1);
  engine_after = rw (sym c.read-r.ensures.0 ∙ not-false _ c.if-not-r.false, c.changed.ensures.ws_after, c.reset-c.ensures, c.read-r.ensures.1);
}
