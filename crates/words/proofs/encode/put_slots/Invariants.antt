-- `encode::put_slots` meets its contract. The loop's invariant: as many pieces as turns are put.
use Rattle.cache.specs.Runs.{empty_slot}
use Rattle.words.specs.Words.{slot_words}
use Rattle.words.specs.Put.{put}
use Rattle.num.specs.Fold.{up_to}
use Rattle.std.proofs.Common.{◌≡◌, ℕ, ◌+◌, ◌*◌, List, length, get_or}
use Rattle.words.proofs.encode.put_slots.Given as goal

abbrev pub invariant-loop-i : goal.invariant-loop-i
invariant-loop-i l = (length l.out ≡ 1150) × (l.out ≡ up_to (λ (o : List ℕ) (j : ℕ). put (15 + 3 * j) (slot_words (get_or l.g.slots j empty_slot)) o) l.initial.out l.i)
