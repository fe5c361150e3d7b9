-- `cache::victim::oldest` meets its contract. The loop's invariant: the best so far is the best of the starts up to i.
use Rattle.std.proofs.Common.{◌≡◌, ◌-◌}
use Rattle.cache.specs.Victim.{best_of, youngest_in}
use Rattle.cache.proofs.victim.oldest.Given as goal

abbrev pub invariant-loop-i : goal.invariant-loop-i
invariant-loop-i l = l.b ≡ best_of (youngest_in l.v l.fn.pages) (l.i - 1)
