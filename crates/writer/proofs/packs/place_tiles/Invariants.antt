-- `writer::packs::place_tiles` meets its contract. The loop's invariant: every entry has the start and length that its key finds among the tiles passed.
use Prim.Native.Nat.{◌≤◌, ◌*◌}
use mathlib.Core.Path.{◌≡◌}
use lib.ListN.{length}
use Rattle.writer.specs.PackSteps.{start_of, source, long, entries, given}
use Rattle.writer.proofs.packs.place_tiles.Given as goal

abbrev pub invariant-loop-i : goal.invariant-loop-i
invariant-loop-i l =
    (l.i ≤ length l.made.tiles.lengths.now)
    × ((l.end ≡ start_of l.made.tiles.lengths.now l.i)
    × (l.out ≡ entries (source (given l.made.grid l.made.tiles.bytes.now l.made.tiles.lengths.now) l.i) (long (given l.made.grid l.made.tiles.bytes.now l.made.tiles.lengths.now) l.i) (l.made.grid.rows * l.made.grid.cols)))
