-- `steps::request` meets its contract: by the header and the load.
use Rattle.words.specs.Words.{engine_of, shared_of, cache_of}
use Rattle.words.proofs.steps.request.Goals as goal

pub returns : goal.returns
unfolding engine_of shared_of cache_of
returns c = rw (c.request.ensures, c.loading-loading.ensures, c.header-header.ensures)
