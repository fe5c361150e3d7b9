-- `matcher::gather::uses_after` meets its contract. The loop's invariant: clock and ages are the definition's over as many tiles.
use mathlib.Core.Path.{◌≡◌}
use Rattle.matcher.specs.Gather.{uses_after}
use Rattle.matcher.proofs.gather.uses_after.Given as goal

abbrev pub invariant-loop-i : goal.invariant-loop-i
invariant-loop-i l = l.a ≡ uses_after l.at l.initial.a l.i
