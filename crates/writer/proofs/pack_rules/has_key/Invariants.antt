-- `writer::pack_rules::has_key` meets its contract. The loop's invariant: `at` is where tile `i` starts, and the tiles from it on decide.
use mathlib.Core.Path.{◌≡◌}
use Rattle.writer.specs.PackSteps.{start_of, tiles_from}
use Rattle.writer.specs.PackWritten.{has_key}
use Rattle.writer.proofs.pack_rules.has_key.Given as goal

abbrev pub invariant-loop-i : goal.invariant-loop-i
invariant-loop-i l =
    (l.at ≡ start_of l.tiles.lengths.now l.i) × (has_key l.key (tiles_from l.tiles.lengths.now l.tiles.bytes.now l.i) ≡ has_key l.key (tiles_from l.tiles.lengths.now l.tiles.bytes.now l.first))
