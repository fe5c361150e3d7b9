-- `tile::read::node_at` meets its contract. The loop's invariant: the search from here finds what the whole search finds.
use Prim.Native.Nat.{◌≤◌, ◌-◌}
use mathlib.Core.Path.{◌≡◌}
use Rattle.tile.specs.Readers as Readers
use Rattle.tile.proofs.read.node_at.Given as goal

abbrev pub invariant-loop-low : goal.invariant-loop-low
invariant-loop-low l =
    (l.high ≤ 65535) × ((l.high ≤ Readers.nodes_there l.bytes) × (Readers.search (Readers.nodes_there l.bytes) l.bytes l.x l.y l.low l.high ≡ Readers.node_at l.bytes l.x l.y))

abbrev pub decreases-loop-low : goal.decreases-loop-low
decreases-loop-low l = l.high - l.low
