-- `cache::evict::piece_run` meets its contract. The loop's invariant: writing the pages that are left, from where the loop stands, is
-- writing all of them from the start.
use Rattle.std.proofs.Common.{◌≡◌, ◌+◌, ◌-◌, length}
use Rattle.cache.specs.Evict.{piece_run}
use Rattle.cache.proofs.evict.piece_run.Given as goal

abbrev pub invariant-loop-at : goal.invariant-loop-at
invariant-loop-at l =
    (length l.d.slots ≡ 96) × (piece_run (l.fn.from + l.fn.n - l.at) l.at l.fn.head l.d ≡ piece_run l.fn.n l.fn.from l.fn.head l.initial.d)
