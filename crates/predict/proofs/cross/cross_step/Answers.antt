-- `predict::cross::cross_step` meets its contract: each return by the number and by how the lookups stand.
use borrow.Author.Tests.{lt-ltb, le-ltb}
use Rattle.predict.specs.Cross.{twin_step, cross_step}
use Rattle.predict.proofs.cross.cross_step.Goals as goal

pub returns-then-n-i : goal.returns-then-n-i
unfolding cross_step
returns-then-n-i c = let past = le-ltb _ _ c.if-n-i.true in
    record {
      value = rw past;
      looks_after = rw past;
    }

pub returns-in-Going : goal.returns-in-Going
unfolding cross_step twin_step
returns-in-Going c =
    let below = lt-ltb _ _ c.if-n-i.false in
    record {
      value = rw (below, c.twin_step.ensures.value, c.in-Going.is);
      looks_after = rw (below, c.twin_step.ensures.looks_after, c.in-Going.is);
    }

pub returns-in-Stops : goal.returns-in-Stops
unfolding cross_step
returns-in-Stops c =
    let below = lt-ltb _ _ c.if-n-i.false in
    record {
      value = rw (below, c.in-Stops.is);
      looks_after = rw (below, c.in-Stops.is);
    }

pub returns-in-Need : goal.returns-in-Need
unfolding cross_step
returns-in-Need c =
    let below = lt-ltb _ _ c.if-n-i.false in
    record {
      value = rw (below, c.in-Need.is);
      looks_after = rw (below, c.in-Need.is);
    }

pub returns-in-Stale : goal.returns-in-Stale
unfolding cross_step
returns-in-Stale c =
    let below = lt-ltb _ _ c.if-n-i.false in
    record {
      value = rw (below, c.in-Stale.is);
      looks_after = rw (below, c.in-Stale.is);
    }
