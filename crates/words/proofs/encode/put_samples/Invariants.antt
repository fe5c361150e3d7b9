-- `encode::put_samples` meets its contract. The loop's invariant: as many pieces as turns are put.
use Rattle.std.proofs.Common.{◌≡◌, ℕ, ◌+◌, List, [], ◌∷◌, length, get_or, pos}
use Rattle.num.specs.Cast.{bits32}
use Rattle.words.specs.Put.{put}
use Rattle.num.specs.Fold.{up_to}
use Rattle.words.proofs.encode.put_samples.Given as goal

abbrev pub invariant-loop-i : goal.invariant-loop-i
invariant-loop-i l = (length l.out ≡ 1150) × (l.out ≡ up_to (λ (o : List ℕ) (j : ℕ). put (629 + j) (bits32 (get_or l.a.samples j (pos 0)) ∷ []) o) l.initial.out l.i)
