-- `encode::put_keys` meets its contract. The loop's invariant: as many pieces as turns are put.
use Rattle.cache.specs.Keys.{empty_place}
use Rattle.words.specs.Words.{maybe_key_words}
use Rattle.words.specs.Put.{put}
use Rattle.num.specs.Fold.{up_to}
use Rattle.std.proofs.Common.{◌≡◌, ℕ, ◌+◌, ◌*◌, List, length, get_or}
use Rattle.words.proofs.encode.put_keys.Given as goal

abbrev pub invariant-loop-i : goal.invariant-loop-i
invariant-loop-i l = (length l.out ≡ 1150) × (l.out ≡ up_to (λ (o : List ℕ) (j : ℕ). put (401 + 2 * j) (maybe_key_words (get_or l.ring.keys j empty_place)) o) l.initial.out l.i)
