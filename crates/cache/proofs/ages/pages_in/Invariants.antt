-- `cache::ages::pages_in` meets its contract. The loop's invariant: the pages passed are taken.
use Rattle.std.proofs.Common.{◌≡◌}
use Rattle.cache.specs.Ages.{pages_in}
use Rattle.cache.proofs.ages.pages_in.Given as goal

abbrev pub invariant-loop-i : goal.invariant-loop-i
invariant-loop-i l = l.looks ≡ pages_in l.initial.looks l.g l.i
