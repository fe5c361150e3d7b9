-- `kept::points` meets its contract. The loop's invariant: so far each is held or one is not.
use Rattle.words.specs.Held.{points_held}
use Rattle.std.proofs.Common.{◌≡◌}
use Rattle.words.proofs.kept.points.Given as goal

abbrev pub invariant-loop-i : goal.invariant-loop-i
invariant-loop-i l = l.ok ≡ points_held l.ws l.i
