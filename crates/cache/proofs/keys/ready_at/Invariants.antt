-- `cache::keys::ready_at` meets its contract. The loop's invariant: no page passed starts a ready run of the key. Past the last of the
-- 96 pages stands the empty slot, which is not ready.
use Rattle.std.specs.Prelude.{None}
use Rattle.std.proofs.Common.{◌≡◌, ℕ}
use Rattle.cache.specs.Runs.{slot_at}
use Rattle.cache.specs.Keys.{is_ready}
use Rattle.cache.specs.Search.{lowest}
use Rattle.cache.proofs.keys.ready_at.Given as goal

abbrev pub invariant-loop-i : goal.invariant-loop-i
invariant-loop-i l = lowest (λ (j : ℕ). is_ready l.key (slot_at l.g.slots j)) l.i ≡ None
