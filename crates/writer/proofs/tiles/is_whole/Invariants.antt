-- `writer::tiles::is_whole` meets its contract. The loop's invariant: `at` is where tile `i` starts, within the bytes.
use Prim.Native.Nat.{◌≤◌}
use mathlib.Core.Path.{◌≡◌}
use lib.ListN.{length}
use Rattle.writer.specs.PackSteps.{start_of}
use Rattle.writer.proofs.tiles.is_whole.Given as goal

abbrev pub invariant-loop-length : goal.invariant-loop-length
invariant-loop-length l = (l.at ≤ length l.bytes) × (l.at ≡ start_of l.lengths l.length-index)
