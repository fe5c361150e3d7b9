-- `matcher::scan::along_to` meets its contract. The loop's invariant: the way so far is the definition's after as many turns.
use Prim.Native.Nat.{ℕ, ◌+◌}
use mathlib.Core.Path.{◌≡◌}
use Rattle.matcher.specs.declared.scan.Along.{Along}
use Rattle.num.specs.Fold.{up_to}
use Rattle.matcher.specs.Scan.{point_of, along_step}
use Rattle.matcher.proofs.scan.along_to.Given as goal

abbrev pub invariant-loop-i : goal.invariant-loop-i
invariant-loop-i l = l.s ≡ up_to (λ (x : Along) (j : ℕ). along_step x (point_of l.header l.bytes l.key l.edge (j + 1)) l.lon_um) l.initial.s l.i
