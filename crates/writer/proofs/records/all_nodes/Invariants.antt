-- `writer::records::all_nodes` meets its contract. The loop's invariant: the nodes passed are put, and their entries behind one another.
use mathlib.Core.Path.{◌≡◌}
use lib.ListN.{length}
use Rattle.writer.specs.TileWritten.{first_entry}
use Rattle.writer.proofs.NodeLaws.{passed}
use Rattle.writer.proofs.records.all_nodes.Given as goal

abbrev pub invariant-loop-i : goal.invariant-loop-i
invariant-loop-i l = (length l.out ≡ length l.initial.out) × ((l.count ≡ first_entry l.edges l.i) × (l.out ≡ passed l.nodes l.edges l.last l.initial.out l.i))
