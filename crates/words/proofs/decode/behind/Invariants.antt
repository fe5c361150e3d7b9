-- `decode::behind` meets its contract. The loop's invariant: the heights so far are those of as many words.
use Rattle.std.proofs.Common.{◌≡◌, ℕ, ◌+◌, length, get_or}
use Rattle.words.specs.Words.{height_of}
use Rattle.words.proofs.ArrayLaws.{turn}
use Rattle.num.specs.Fold.{up_to}
use Rattle.words.proofs.decode.behind.Given as goal

abbrev pub invariant-loop-i : goal.invariant-loop-i
invariant-loop-i l = (length l.out ≡ 11) × (l.out ≡ up_to (turn (λ (j : ℕ). height_of (get_or l.ws (1131 + j) 0))) l.initial.out l.i)
