-- `look::ring_in` meets its contract. The loop's invariant: the places passed are taken.
use Rattle.std.proofs.Common.{◌≡◌}
use Rattle.cache.specs.Ages.{ring_in}
use Rattle.words.specs.Words.{ring_of}
use Rattle.words.proofs.look.ring_in.Given as goal

abbrev pub invariant-loop-i : goal.invariant-loop-i
invariant-loop-i l = l.looks ≡ ring_in l.initial.looks (ring_of l.ws 401) l.i
