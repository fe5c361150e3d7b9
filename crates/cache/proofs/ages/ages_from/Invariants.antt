-- `cache::ages::ages_from` meets its contract. The loop's invariant: the ages of the pages passed are stored.
use Rattle.std.proofs.Common.{◌≡◌}
use Rattle.cache.specs.Ages.{ages_to}
use Rattle.cache.proofs.ages.ages_from.Given as goal

abbrev pub invariant-loop-i : goal.invariant-loop-i
invariant-loop-i l = l.used ≡ ages_to l.looks l.i
