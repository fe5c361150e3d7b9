-- `matcher::choose::kept_at` meets its contract. The loop's invariant: no candidate passed is on the edge. Past the eighth none counts.
use Rattle.std.specs.Prelude.{None}
use Prim.Native.Nat.{ℕ}
use mathlib.Core.Path.{◌≡◌}
use mathlib.Core.Bool.{◌&&◌}
use lib.Dec.{ltb}
use Rattle.cache.specs.Search.{lowest}
use Rattle.matcher.specs.Keeping.{candidate_in}
use Rattle.matcher.specs.Choose.{same_edge}
use Rattle.matcher.proofs.choose.kept_at.Given as goal

abbrev pub invariant-loop-i : goal.invariant-loop-i
invariant-loop-i l = lowest (λ (j : ℕ). ltb j 8 && same_edge (candidate_in l.k j) l.m) l.i ≡ None
