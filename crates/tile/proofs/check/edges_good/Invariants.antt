-- `tile::check::edges_good` meets its contract. The loop's invariant: every edge passed is good.
use mathlib.Core.Bool.{true}
use mathlib.Core.Path.{◌≡◌}
use Rattle.tile.specs.Parse.{edge_ok, all_below}
use Rattle.tile.proofs.check.edges_good.Given as goal

abbrev pub invariant-loop-index : goal.invariant-loop-index
invariant-loop-index l = all_below (edge_ok l.bytes) l.index ≡ true
