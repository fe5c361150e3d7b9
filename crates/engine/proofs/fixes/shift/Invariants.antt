-- `engine::fixes::shift` meets its contract. The loop's invariant: the first i places hold what stood one place on, and the others what they
-- held.
use Rattle.std.proofs.Common.{◌≡◌, length}
use Rattle.predict.proofs.Shift.{moved}
use Rattle.engine.proofs.fixes.shift.Given as goal

abbrev pub invariant-loop-i : goal.invariant-loop-i
invariant-loop-i l = (length l.d.v ≡ 16) × ((l.d.v ≡ moved l.i l.initial.d.v) × (l.d.len ≡ l.initial.d.len))
