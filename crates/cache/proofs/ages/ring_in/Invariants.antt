-- `cache::ages::ring_in` meets its contract. The loop's invariant: the places passed are taken.
use Rattle.std.proofs.Common.{◌≡◌}
use Rattle.cache.specs.Ages.{ring_in}
use Rattle.cache.proofs.ages.ring_in.Given as goal

abbrev pub invariant-loop-i : goal.invariant-loop-i
invariant-loop-i l = l.looks ≡ ring_in l.initial.looks l.ring l.i
