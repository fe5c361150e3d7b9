-- `cache::evict::clear_run` meets its contract. The loop's invariant: clearing the pages that are left, from where the loop stands, is
-- clearing all of them from the start.
use Rattle.std.proofs.Common.{◌≡◌, ◌+◌, ◌-◌}
use Rattle.cache.specs.Evict.{clear_run}
use Rattle.cache.proofs.Turns.{Full}
use Rattle.cache.proofs.evict.clear_run.Given as goal

abbrev pub invariant-loop-at : goal.invariant-loop-at
invariant-loop-at l = Full l.d × (clear_run (l.fn.from + l.fn.n - l.at) l.at l.d ≡ clear_run l.fn.n l.fn.from l.initial.d)
