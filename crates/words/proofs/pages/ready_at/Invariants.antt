-- `pages::ready_at` meets its contract. The loop's invariant: no page passed starts a ready run of the key. Past the last of the 96 pages none does.
use Rattle.std.specs.Prelude.{None}
use Rattle.std.proofs.Common.{◌≡◌}
use Rattle.cache.specs.Search.{lowest}
use Rattle.words.proofs.PagesLaws.{ready_in}
use Rattle.words.proofs.pages.ready_at.Given as goal

abbrev pub invariant-loop-i : goal.invariant-loop-i
invariant-loop-i l = lowest (ready_in l.ws l.word) l.i ≡ None
