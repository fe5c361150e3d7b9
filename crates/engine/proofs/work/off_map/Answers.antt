-- `engine::work::off_map` meets its contract: by whether there is a match, and the answers of its callees.
use Rattle.std.proofs.Common.{sym, ◌∙◌}
use Rattle.engine.specs.Work.{off_map}
use Rattle.engine.proofs.work.off_map.Goals as goal
use Rattle.engine.proofs.work.off_map.Goals.{then-is_matched, else-is_matched}

pub returns : goal.returns
unfolding off_map
returns c =
    elim c.if-is_matched.branch [
      | then-is_matched way ↦ rw (c.emptied-ahead.ensures, way.d-is, way.reset-none.ensures, sym c.is_matched.ensures ∙ way.if-is_matched.true)
      | else-is_matched way ↦ rw (c.emptied-ahead.ensures, way.d-is, sym c.is_matched.ensures ∙ way.if-is_matched.false)
    ]
