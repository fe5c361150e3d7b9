-- `cache::ages::page_of` meets its contract. The loop's invariant: on no page passed the tile is ready.
use Rattle.std.specs.Prelude.{None}
use Rattle.std.proofs.Common.{◌≡◌, ℕ, ◌+◌, ◌&&◌, eqb, ltb, get_or}
use Rattle.cache.specs.Search.{lowest}
use Rattle.cache.proofs.ages.page_of.Given as goal

abbrev pub invariant-loop-i : goal.invariant-loop-i
invariant-loop-i l =
    lowest (λ (j : ℕ). ltb j 96 && (eqb (get_or l.looks (192 + j) 0) l.row && eqb (get_or l.looks (288 + j) 0) l.col)) l.i ≡ None
