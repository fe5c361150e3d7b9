-- `predict::meets::has_met` meets its contract. The loop's invariant: no place passed holds the tile. From place 96 on stands none.
use Rattle.std.specs.Prelude.{None}
use Prim.Native.Nat.{ℕ}
use mathlib.Core.Path.{◌≡◌}
use mathlib.Core.Bool.{◌&&◌}
use lib.Dec.{ltb}
use Rattle.cache.specs.Search.{lowest}
use Rattle.predict.specs.Meets.{is_met}
use Rattle.predict.proofs.meets.has_met.Given as goal

abbrev pub invariant-loop-i : goal.invariant-loop-i
invariant-loop-i l = lowest (λ (j : ℕ). ltb j 96 && is_met l.met j l.key) l.i ≡ None
