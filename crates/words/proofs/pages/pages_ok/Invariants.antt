-- `pages::pages_ok` meets its contract. The loop's invariant: the pages passed are slots, and what is known of them, with the last run (`Passed`).
use Rattle.std.proofs.Common.{◌≡◌, ◌<◌, ◌≤◌, true}
use Rattle.cache.proofs.PassLaws.{Passed}
use Rattle.words.specs.Held.{slots_held}
use Rattle.words.specs.Words.{pages_of}
use Rattle.words.proofs.pages.pages_ok.Given as goal

abbrev pub invariant-loop-p : goal.invariant-loop-p
invariant-loop-p l =
    (l.p ≤ 96)
    × ((l.count ≤ 96)
    × ((l.head < 96)
    × ((slots_held l.ws l.p ≡ true) × Passed (pages_of l.ws 15).slots (pages_of l.ws 15).count l.p (record { head = l.head; end = l.end }))))
