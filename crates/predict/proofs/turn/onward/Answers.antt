-- `predict::turn::onward` meets its contract: each return by how the lookups of the junction ended.
use Rattle.cache.specs.Reader.{in_looks}
use Rattle.predict.specs.Walk.{decided, onward}
use Rattle.predict.proofs.Arms.{ended}
use Rattle.predict.proofs.Looks.{onward_ended}
use Rattle.predict.proofs.turn.onward.Goals as goal
use borrow.Enum.Refused.{opened}

pub returns-in-Going : goal.returns-in-Going
unfolding onward decided
returns-in-Going c =
    let told = c.in-Going.is in
    let decide = c.decide-d.ensures in
    record {
      value = rw (c.decided.ensures.value, decide, told);
      looks_after = rw (c.decided.ensures.looks_after, decide, told);
    }

pub returns-in-Stops : goal.returns-in-Stops
unfolding onward
returns-in-Stops c =
    let args = c.args in
    let stays = onward_ended (in_looks args.arena.now args.size) args.x.ending (ended args.x.ending (opened c.in-Stops.in-Stops-own.keys2)) in
    record {
      value = rw (c.with_ending.ensures, stays);
      looks_after = rw stays;
    }
