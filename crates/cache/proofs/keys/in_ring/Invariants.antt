-- `cache::keys::in_ring` meets its contract. The loop's invariant: no place passed holds the key.
use Rattle.std.specs.Prelude.{None}
use Rattle.std.proofs.Common.{◌≡◌, ℕ}
use Rattle.cache.specs.Keys.{holds, key_at}
use Rattle.cache.specs.Search.{lowest}
use Rattle.cache.proofs.keys.in_ring.Given as goal

abbrev pub invariant-loop-i : goal.invariant-loop-i
invariant-loop-i l = lowest (λ (j : ℕ). holds (key_at l.ring j) l.key) l.i ≡ None
