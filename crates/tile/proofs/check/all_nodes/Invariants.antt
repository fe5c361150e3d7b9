-- `tile::check::all_nodes` meets its contract. The loop's invariant: every node passed is good and follows the one before it, and whether the next one
-- does is what comparing its place, as one number, with that of the one before tells.
use mathlib.Core.Bool.{true, not}
use mathlib.Core.Path.{◌≡◌}
use lib.Dec.{ltb}
use Rattle.tile.specs.Order.{follows, in_order}
use Rattle.tile.specs.Parse.{node_ok, all_below}
use Rattle.tile.specs.Layout.{node_of}
use Rattle.tile.proofs.Ordered.{place_number}
use Rattle.tile.proofs.check.all_nodes.Given as goal

abbrev pub invariant-loop-index : goal.invariant-loop-index
invariant-loop-index l =
    (all_below (node_ok l.bytes l.size) l.index ≡ true)
    × ((in_order (node_of l.bytes) l.index ≡ true)
    × (not (ltb (place_number (node_of l.bytes l.index)) l.before) ≡ follows (node_of l.bytes) l.index))
