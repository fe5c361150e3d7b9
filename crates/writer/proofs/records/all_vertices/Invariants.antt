-- `writer::records::all_vertices` meets its contract. The loop's invariant: the vertices passed are put.
use mathlib.Core.Path.{◌≡◌}
use lib.ListN.{length}
use Rattle.writer.specs.Fields.{puts}
use Rattle.writer.specs.TileWritten.{vertex_fields, fields_below}
use Rattle.writer.proofs.records.all_vertices.Given as goal

abbrev pub invariant-loop-i : goal.invariant-loop-i
invariant-loop-i l = (length l.out ≡ length l.initial.out) × (l.out ≡ puts (fields_below (vertex_fields l.base l.vertices) l.i) l.initial.out)
