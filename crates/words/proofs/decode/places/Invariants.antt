-- `decode::places` meets its contract. The loop's invariant: the places so far are those of as many turns.
use Rattle.words.proofs.ArrayLaws.{places_turn}
use Rattle.num.specs.Fold.{up_to}
use Rattle.std.proofs.Common.{◌≡◌, length}
use Rattle.words.proofs.decode.places.Given as goal

abbrev pub invariant-loop-i : goal.invariant-loop-i
invariant-loop-i l = (length l.h.v ≡ 16) × (l.h ≡ up_to (places_turn l.ws) l.initial.h l.i)
