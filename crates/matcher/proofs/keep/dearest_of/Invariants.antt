-- `matcher::keep::dearest_of` meets its contract. The loop's invariant: the dearest so far is the definition's after as many turns.
-- Each place read is one of the eight.
use Prim.Native.Nat.{ℕ}
use mathlib.Core.Path.{◌≡◌}
use Rattle.matcher.specs.declared.keep.Dearest.{Dearest}
use Rattle.num.specs.Fold.{up_to}
use Rattle.matcher.specs.Keeping.{candidate_in, dearer}
use Rattle.matcher.proofs.keep.dearest_of.Given as goal

abbrev pub invariant-loop-i : goal.invariant-loop-i
invariant-loop-i l = l.d ≡ up_to (λ (x : Dearest) (j : ℕ). dearer x j (candidate_in l.fn.k j).cost) l.initial.d l.i
