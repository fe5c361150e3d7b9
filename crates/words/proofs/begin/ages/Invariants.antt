-- `begin::ages` meets its contract. The loop's invariant: the array holds the ages of the pages passed.
use Rattle.std.proofs.Common.{◌≡◌, length}
use Rattle.cache.specs.Victim.{Aged}
use Rattle.words.specs.Words.{pages_of}
use Rattle.words.proofs.begin.ages.Given as goal

abbrev pub invariant-loop-i : goal.invariant-loop-i
invariant-loop-i l = (length l.v ≡ 96) × Aged (pages_of l.ws 15) l.v l.i
