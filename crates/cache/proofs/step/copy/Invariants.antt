-- `step::copy` meets its contract. The loop's invariant: the first i bytes are in place.
use Rattle.std.proofs.Common.{◌≡◌, length}
use lib.Seq.{paste}
use Rattle.cache.proofs.step.copy.Given as goal

abbrev pub invariant-loop-i : goal.invariant-loop-i
invariant-loop-i l = (length l.arena ≡ length l.initial.arena) × (l.arena ≡ paste l.initial.arena l.at l.bytes l.i)
