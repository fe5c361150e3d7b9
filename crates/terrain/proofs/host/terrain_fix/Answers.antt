-- `host::terrain_fix` meets its contract: words that no engine has are refused, else it is the engine's own call.
use mir.Facts.{to_z-of_z}
use Rattle.terrain.specs.Host.{fix}
use borrow.Author.Tests.{not-true, not-false}
use mathlib.Core.Path.{sym, ◌∙◌}
use Rattle.terrain.proofs.host.terrain_fix.Goals as goal

pub returns-then-not-r : goal.returns-then-not-r
unfolding fix
returns-then-not-r c = record {
  value = rw (sym c.read-r.ensures.0 ∙ not-true _ c.if-not-r.true);
  engine_after = rw (sym c.read-r.ensures.0 ∙ not-true _ c.if-not-r.true);
}

pub returns : goal.returns
unfolding fix
returns c = record {
  value = rw (sym c.read-r.ensures.0 ∙ not-false _ c.if-not-r.false, c.changed.ensures.value, c.fix-c.ensures, to_z-of_z c.ranges.lat, to_z-of_z c.ranges.lon, c.read-r.ensures.1);
  engine_after = rw (sym c.read-r.ensures.0 ∙ not-false _ c.if-not-r.false, c.changed.ensures.ws_after, c.fix-c.ensures, to_z-of_z c.ranges.lat, to_z-of_z c.ranges.lon, c.read-r.ensures.1);
}
