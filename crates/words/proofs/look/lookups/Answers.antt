-- `look::lookups` meets its contract, call by call.
use Rattle.cache.specs.Ages.{lookups_of}
use Rattle.words.specs.Words.{pages_of, cache_of}
use Rattle.words.proofs.look.lookups.Goals as goal

pub returns : goal.returns
unfolding lookups_of cache_of pages_of
returns c = rw (c.most.ensures, c.ring_in.ensures, c.pages_in.ensures)
