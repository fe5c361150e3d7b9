-- `encode::put` meets its contract. The loop's invariant: as many words as turns are copied.
use lib.Seq.{paste}
use Rattle.std.proofs.Common.{◌≡◌, length}
use Rattle.words.proofs.encode.put.Given as goal

abbrev pub invariant-loop-i : goal.invariant-loop-i
invariant-loop-i l = (length l.out ≡ length l.initial.out) × (l.out ≡ paste l.initial.out l.at l.piece l.i)
