-- `decode::pages` meets its contract. The loop's invariant: slots and ages so far are those of as many turns.
use Rattle.words.proofs.ArrayLaws.{pages_turn}
use Rattle.num.specs.Fold.{up_to}
use Rattle.std.proofs.Common.{◌≡◌, length}
use Rattle.words.proofs.decode.pages.Given as goal

abbrev pub invariant-loop-i : goal.invariant-loop-i
invariant-loop-i l = (length l.g.slots ≡ 96) × ((length l.g.used ≡ 96) × (l.g ≡ up_to (pages_turn l.ws) l.initial.g l.i))
