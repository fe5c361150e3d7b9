-- `encode::put_points` meets its contract. The loop's invariant: as many pieces as turns are put.
use Rattle.words.specs.Words.{point_words, no_point}
use Rattle.words.specs.Put.{put}
use Rattle.num.specs.Fold.{up_to}
use Rattle.std.proofs.Common.{◌≡◌, ℕ, ◌+◌, ◌*◌, List, length, get_or}
use Rattle.words.proofs.encode.put_points.Given as goal

abbrev pub invariant-loop-i : goal.invariant-loop-i
invariant-loop-i l = (length l.out ≡ 1150) × (l.out ≡ up_to (λ (o : List ℕ) (j : ℕ). put (544 + 2 * j) (point_words (get_or l.h.v j no_point)) o) l.initial.out l.i)
