-- `pages::in_ring` meets its contract. The loop's invariant: whether one of the places passed holds the key.
use Rattle.std.specs.Prelude.{is_some}
use Rattle.std.proofs.Common.{◌≡◌}
use Rattle.cache.specs.Search.{lowest}
use Rattle.words.proofs.PagesLaws.{place_in}
use Rattle.words.proofs.pages.in_ring.Given as goal

abbrev pub invariant-loop-i : goal.invariant-loop-i
invariant-loop-i l = l.found ≡ is_some (lowest (place_in l.ws l.word) l.i)
