-- `tile::check::entries_good` meets its contract. The loop's invariant: every entry passed names an edge.
use mathlib.Core.Bool.{true}
use mathlib.Core.Path.{◌≡◌}
use Rattle.tile.specs.Parse.{entry_ok, all_below}
use Rattle.tile.proofs.check.entries_good.Given as goal

abbrev pub invariant-loop-entry : goal.invariant-loop-entry
invariant-loop-entry l = all_below (entry_ok l.bytes) l.entry ≡ true
