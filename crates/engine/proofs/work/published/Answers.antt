-- `engine::work::published` meets its contract: by the answers of its callees.
use Rattle.engine.specs.Work.{published}
use Rattle.engine.proofs.work.published.Goals as goal

pub returns : goal.returns
unfolding published
returns c = rw (c.with_match-ahead.ensures, c.road_done-done.ensures)
