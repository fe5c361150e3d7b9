-- `writer::records::entries_at` meets its contract. The loop's invariant: to put what is left of the node's entries gives what to put all of them gives.
use Prim.Native.Nat.{◌+◌, ◌-◌, ◌≤◌}
use mathlib.Core.Path.{◌≡◌}
use lib.ListN.{length}
use Rattle.writer.specs.Fields.{puts}
use Rattle.writer.specs.Steps.{entry_fields}
use Rattle.writer.specs.TileWritten.{entries_from, entries_at}
use Rattle.writer.proofs.records.entries_at.Given as goal

abbrev pub invariant-loop-i : goal.invariant-loop-i
invariant-loop-i l = (l.i ≤ l.last)
    × ((length l.out ≡ length l.initial.out)
    × ((l.filled + length (entries_from l.edges l.node l.i (l.last - l.i)) ≡ l.count + length (entries_at l.edges l.node))
    × (puts (entry_fields l.base l.filled (entries_from l.edges l.node l.i (l.last - l.i))) l.out ≡ puts (entry_fields l.base l.count (entries_at l.edges l.node)) l.initial.out)))
