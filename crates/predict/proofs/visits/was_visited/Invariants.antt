-- `predict::visits::was_visited` meets its contract. The loop's invariant: no place passed holds the edge.
use Rattle.std.specs.Prelude.{None}
use Prim.Native.Nat.{ℕ}
use mathlib.Core.Path.{◌≡◌}
use mathlib.Core.Bool.{◌&&◌}
use lib.Dec.{ltb}
use Rattle.cache.specs.Search.{lowest}
use Rattle.predict.specs.Visits.{is_followed}
use Rattle.predict.proofs.visits.was_visited.Given as goal

abbrev pub invariant-loop-i : goal.invariant-loop-i
invariant-loop-i l = lowest (λ (j : ℕ). ltb j 128 && is_followed l.visited j l.key l.edge) l.i ≡ None
