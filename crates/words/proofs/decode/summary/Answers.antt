-- `decode::summary` meets its contract: field by field.
use Rattle.engine.specs.Summaries.{summary_of}
use Rattle.words.specs.Words.{engine_of, shared_of, follower_of, cache_of, pages_of, ahead_of}
use Rattle.words.proofs.decode.summary.Goals as goal

pub returns : goal.returns
unfolding summary_of engine_of shared_of follower_of cache_of pages_of ahead_of
returns c = rw (c.byte.ensures, c.size-3.ensures, c.size-2.ensures, c.size.ensures, c.current-published.ensures, c.due-due.ensures, c.matcher-matcher.ensures, c.sight-sight.ensures, c.pending-pending.ensures, c.loading-loading.ensures, c.header-header.ensures, c.phase-phase.ensures)
