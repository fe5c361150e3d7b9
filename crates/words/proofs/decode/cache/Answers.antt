-- `decode::cache` meets its contract.
use Rattle.words.specs.Words.{cache_of}
use Rattle.words.proofs.decode.cache.Goals as goal

pub returns : goal.returns
unfolding cache_of
returns c = rw (c.pending-pending.ensures, c.loading-loading.ensures, c.ring-missing.ensures, c.pages-pages.ensures)
