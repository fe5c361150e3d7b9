-- `look::pages_in` meets its contract. The loop's invariant: the pages passed are taken.
use Rattle.std.proofs.Common.{◌≡◌}
use Rattle.cache.specs.Ages.{pages_in}
use Rattle.words.specs.Words.{pages_of}
use Rattle.words.proofs.look.pages_in.Given as goal

abbrev pub invariant-loop-i : goal.invariant-loop-i
invariant-loop-i l = l.looks ≡ pages_in l.initial.looks (pages_of l.ws 15) l.i
