-- `kept::keys` meets its contract. The loop's invariant: so far each is held or one is not.
use Rattle.words.specs.Held.{keys_held}
use Rattle.std.proofs.Common.{◌≡◌}
use Rattle.words.proofs.kept.keys.Given as goal

abbrev pub invariant-loop-i : goal.invariant-loop-i
invariant-loop-i l = l.ok ≡ keys_held l.ws l.i
