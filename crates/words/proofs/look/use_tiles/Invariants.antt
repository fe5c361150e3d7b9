-- `look::use_tiles` meets its contract. The loop's invariant: the words have clock and ages once as many tiles were gone through, and all else as before.
use Rattle.std.proofs.Common.{◌≡◌}
use Rattle.cache.specs.Uses.{uses_of}
use Rattle.matcher.specs.Gather.{uses_after}
use Rattle.words.specs.Put.{uses_in}
use Rattle.words.specs.Words.{cache_of}
use Rattle.words.proofs.look.use_tiles.Given as goal

abbrev pub invariant-loop-i : goal.invariant-loop-i
invariant-loop-i l = l.ws ≡ uses_in (uses_after l.at (uses_of (cache_of l.initial.ws 15)) l.i) l.initial.ws
