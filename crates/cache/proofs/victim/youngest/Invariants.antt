-- `cache::victim::youngest` meets its contract. The loop's invariant: `low` is the least of the ages passed.
use Rattle.std.proofs.Common.{◌≡◌}
use Rattle.cache.specs.Victim.{youngest_in}
use Rattle.cache.proofs.victim.youngest.Given as goal

abbrev pub invariant-loop-i : goal.invariant-loop-i
invariant-loop-i l = l.low ≡ youngest_in l.v l.i l.start
