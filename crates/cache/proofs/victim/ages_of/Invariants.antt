-- `cache::victim::ages_of` meets its contract. The loop's invariant: the array holds the ages of the pages passed.
use Rattle.std.proofs.Common.{◌≡◌, length}
use Rattle.cache.specs.Victim.{Aged}
use Rattle.cache.proofs.victim.ages_of.Given as goal

abbrev pub invariant-loop-i : goal.invariant-loop-i
invariant-loop-i l = (length l.ages ≡ 96) × Aged l.g l.ages l.i
