-- `writer::pack_rules::tiles_good` meets its contract. The loop's invariant: `at` is where tile `i` starts, and the tiles from it on decide.
use mathlib.Core.Path.{◌≡◌}
use Rattle.writer.specs.PackSteps.{start_of, tiles_from, given}
use Rattle.writer.specs.PackWritten.{tiles_good, cut}
use Rattle.writer.proofs.pack_rules.tiles_good.Given as goal

abbrev pub invariant-loop-i : goal.invariant-loop-i
invariant-loop-i l =
    (l.at ≡ start_of l.tiles.lengths.now l.i) × (tiles_good (given l.grid l.tiles.bytes.now l.tiles.lengths.now) (tiles_from l.tiles.lengths.now l.tiles.bytes.now l.i) ≡ tiles_good (given l.grid l.tiles.bytes.now l.tiles.lengths.now) (cut l.tiles.lengths.now l.tiles.bytes.now))
