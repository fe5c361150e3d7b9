-- `writer::packs::copy` meets its contract. The loop's invariant: the first `i` bytes are copied.
use native.Mathlib.Numerals.{add-one}
use native.Mathlib.Omega.{arith}
use lib.Seq.{paste-suc}
use Rattle.writer.proofs.packs.copy.Goals as goal

pub loop-i-preserved : goal.loop-i-preserved
loop-i-preserved c =
    let loop = c.loop-i in
    let args = c.args in
    rw (loop.invariant, add-one) (paste-suc args.out.now args.at args.from.now loop.i 0 (omega arith) (omega arith))
