-- `decode::ring` meets its contract. The loop's invariant: the places so far are those of as many turns.
use Rattle.words.proofs.ArrayLaws.{ring_turn}
use Rattle.num.specs.Fold.{up_to}
use Rattle.std.proofs.Common.{◌≡◌, length}
use Rattle.words.proofs.decode.ring.Given as goal

abbrev pub invariant-loop-i : goal.invariant-loop-i
invariant-loop-i l = (length l.r.keys ≡ 64) × (l.r ≡ up_to (ring_turn l.ws) l.initial.r l.i)
