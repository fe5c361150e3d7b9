-- `kept::held` meets its contract. The loop's invariant: what was compared so far and what is left decide together.
use Rattle.words.specs.Held.{held_at}
use Rattle.std.proofs.Common.{◌≡◌, ◌+◌, ◌&&◌, drop}
use Rattle.words.proofs.kept.held.Given as goal

abbrev pub invariant-loop-i : goal.invariant-loop-i
invariant-loop-i l = (l.ok && held_at (l.at + l.i) (drop l.i l.piece) l.ws) ≡ held_at l.at l.piece l.ws
