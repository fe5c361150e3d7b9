-- `encode::put_used` meets its contract. The loop's invariant: as many pieces as turns are put.
use Rattle.words.specs.Put.{put}
use Rattle.num.specs.Fold.{up_to}
use Rattle.std.proofs.Common.{◌≡◌, ℕ, ◌+◌, List, [], ◌∷◌, length, get_or}
use Rattle.words.proofs.encode.put_used.Given as goal

abbrev pub invariant-loop-i : goal.invariant-loop-i
invariant-loop-i l = (length l.out ≡ 1150) × (l.out ≡ up_to (λ (o : List ℕ) (j : ℕ). put (303 + j) (get_or l.used j 0 ∷ []) o) l.initial.out l.i)
