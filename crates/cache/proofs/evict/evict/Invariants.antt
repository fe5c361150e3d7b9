-- `cache::evict::evict` meets its contract. The loop's invariant: evicting the pages that are left, from where the loop stands, is
-- evicting all of them from the start.
use Rattle.std.proofs.Common.{◌≡◌, ◌+◌, ◌-◌}
use Rattle.cache.specs.Evict.{evicted}
use Rattle.cache.proofs.Turns.{Full}
use Rattle.cache.proofs.evict.evict.Given as goal

abbrev pub invariant-loop-at : goal.invariant-loop-at
invariant-loop-at l = Full l.d × (evicted (l.fn.first + l.fn.pages - l.at) l.at l.d ≡ evicted l.fn.pages l.fn.first l.initial.d)
