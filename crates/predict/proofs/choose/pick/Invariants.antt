-- `predict::choose::pick` meets its contract. The loop's invariant: the best and the second so far are the definition's after as many turns.
-- Each place read is one of the twelve.
use mathlib.Core.Path.{◌≡◌}
use Rattle.predict.specs.Choose.{pick_to}
use Rattle.predict.proofs.choose.pick.Given as goal

abbrev pub invariant-loop-i : goal.invariant-loop-i
invariant-loop-i l = l.p ≡ pick_to l.c l.i
