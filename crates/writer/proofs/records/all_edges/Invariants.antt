-- `writer::records::all_edges` meets its contract. The loop's invariant: the edges passed are put.
use mathlib.Core.Path.{◌≡◌}
use lib.ListN.{length}
use Rattle.writer.specs.Fields.{puts}
use Rattle.writer.specs.TileWritten.{edge_fields, fields_below}
use Rattle.writer.proofs.records.all_edges.Given as goal

abbrev pub invariant-loop-i : goal.invariant-loop-i
invariant-loop-i l = (length l.out ≡ length l.initial.out) × (l.out ≡ puts (fields_below (edge_fields l.base l.edges) l.i) l.initial.out)
