-- `predict::incoming::shift_distances` meets its contract. The loop's invariant: the first i places hold what stood one place on, and the others what they
-- held.
use mathlib.Core.Path.{◌≡◌}
use Rattle.predict.proofs.Shift.{moved}
use Rattle.predict.proofs.incoming.shift_distances.Given as goal

abbrev pub invariant-loop-i : goal.invariant-loop-i
invariant-loop-i l = l.v ≡ moved l.i l.initial.v
