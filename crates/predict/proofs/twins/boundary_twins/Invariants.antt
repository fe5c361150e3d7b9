-- `predict::twins::boundary_twins` meets its contract. The loop's invariant: the twins so far are the definition's after as many turns.
use mathlib.Core.Path.{◌≡◌}
use Rattle.predict.specs.Twins.{twins_to}
use Rattle.predict.proofs.twins.boundary_twins.Given as goal

abbrev pub invariant-loop-i : goal.invariant-loop-i
invariant-loop-i l = l.t ≡ twins_to l.x l.y l.size l.i
