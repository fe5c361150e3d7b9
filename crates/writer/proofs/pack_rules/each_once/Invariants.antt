-- `writer::pack_rules::each_once` meets its contract. The loop's invariant: no key comes twice among the tiles passed, none of them ranks below
-- `least`, and each has set its mark.
use Prim.Native.Nat.{◌≤◌}
use mathlib.Core.Bool.{true}
use mathlib.Core.Path.{◌≡◌}
use lib.ListN.{length}
use Rattle.writer.specs.PackSteps.{start_of, tiles_from}
use Rattle.writer.specs.PackWritten.{no_key_twice}
use Rattle.writer.proofs.KeyLaws.{NoneBelow, Marked}
use Rattle.writer.proofs.pack_rules.each_once.Given as goal

abbrev pub invariant-loop-i : goal.invariant-loop-i
invariant-loop-i l =
    (l.i ≤ length l.tiles.lengths.now)
    × ((l.end ≡ start_of l.tiles.lengths.now l.i) × ((no_key_twice (tiles_from l.tiles.lengths.now l.tiles.bytes.now l.i) ≡ true) × (NoneBelow l.least l.tiles.lengths.now l.tiles.bytes.now l.i × (Marked l.cols l.marks l.tiles.lengths.now l.tiles.bytes.now l.i × (length l.marks ≡ 0x4_0000)))))
