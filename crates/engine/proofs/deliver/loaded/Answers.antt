-- `engine::deliver::loaded` meets its contract: a step of the load that is refused, and any other.
use Rattle.engine.proofs.StepNeeds.{load_ended}
use Rattle.engine.proofs.deliver.loaded.Goals as goal

pub returns-in-Err : goal.returns-in-Err
returns-in-Err c = rw (c.refused.ensures, c.in-Err.is)

pub returns : goal.returns
returns c =
    let args = c.args in
    rw (
      c.load_tells-told.ensures,
      c.load_phase-phase.ensures,
      c.load_leaves-after.ensures,
      c.fails_pack-is_failed.ensures,
      c.in-Ok.is,
      load_ended c.in-Ok.progress args.e args.l.cache,
    )
