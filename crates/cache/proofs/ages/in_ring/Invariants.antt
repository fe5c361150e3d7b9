-- `cache::ages::in_ring` meets its contract. The loop's invariant: no place passed holds the key.
use Rattle.std.specs.Prelude.{None}
use Rattle.std.proofs.Common.{◌≡◌, ℕ, ◌+◌, ◌&&◌, eqb, get_or}
use Rattle.cache.specs.Search.{lowest}
use Rattle.cache.proofs.ages.in_ring.Given as goal

abbrev pub invariant-loop-i : goal.invariant-loop-i
invariant-loop-i l = lowest (λ (j : ℕ). eqb (get_or l.looks (480 + j) 0) l.row && eqb (get_or l.looks (544 + j) 0) l.col) l.i ≡ None
