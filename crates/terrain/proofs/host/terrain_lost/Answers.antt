-- `host::terrain_lost` meets its contract: words that no engine has are refused, else it is the engine's own call.
use Rattle.terrain.specs.Host.{lost}
use borrow.Author.Tests.{not-true, not-false}
use mathlib.Core.Path.{sym, ◌∙◌}
use Rattle.terrain.proofs.host.terrain_lost.Goals as goal

pub returns-then-not-r : goal.returns-then-not-r
unfolding lost
returns-then-not-r c = record {
  value = rw (sym c.read-r.ensures.0 ∙ not-true _ c.if-not-r.true);
  engine_after = rw (sym c.read-r.ensures.0 ∙ not-true _ c.if-not-r.true);
}

pub returns : goal.returns
unfolding lost
returns c = record {
  value = rw (sym c.read-r.ensures.0 ∙ not-false _ c.if-not-r.false, c.changed.ensures.value, c.lost-c.ensures, c.read-r.ensures.1);
  engine_after = rw (sym c.read-r.ensures.0 ∙ not-false _ c.if-not-r.false, c.changed.ensures.ws_after, c.lost-c.ensures, c.read-r.ensures.1);
}
