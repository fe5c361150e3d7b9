-- `predict::turn::decided` meets its contract: each return by whether there is a way on; what its lookup gives is what the reader gives.
use mathlib.Core.Path.{sym}
use Rattle.cache.specs.Reader.{in_looks}
use Rattle.predict.specs.Walk.{taken, decided}
use Rattle.predict.proofs.Arms.{ended}
use Rattle.predict.proofs.Looks.{look_carried, taken_ended}
use Rattle.predict.proofs.turn.decided.Goals as goal
use borrow.Enum.Refused.{opened}

pub returns-in-Going : goal.returns-in-Going
unfolding decided taken
returns-in-Going c =
    let found = c.look_up-answer in
    let told = c.in-Going.is in
    let args = c.args in
    record {
      value = rw (c.next_by.ensures, found.ensures.value, c.taken-v.ensures, told);
      looks_after = rw (found.ensures.looks_after, c.taken-v.ensures, told) (sym (look_carried args.looks.now args.arena.now args.size args.d.way.tile));
    }

pub returns-in-Stops : goal.returns-in-Stops
unfolding decided
returns-in-Stops c =
    let args = c.args in
    let stays = taken_ended (in_looks args.arena.now args.size) args.d.ending (ended args.d.ending (opened c.in-Stops.in-Stops-own.keys2)) in
    record {
      value = rw (c.taken-v.ensures, stays);
      looks_after = rw stays;
    }
