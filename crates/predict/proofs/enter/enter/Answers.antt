-- `predict::enter::enter` meets its contract: each return by whether the walk goes on.
use Rattle.predict.specs.Walk.{enter}
use Rattle.predict.proofs.Arms.{ended}
use Rattle.predict.proofs.enter.enter.Goals as goal
use borrow.Enum.Refused.{opened}

pub returns-in-Going : goal.returns-in-Going
unfolding enter
returns-in-Going c =
    let going = c.in-Going.is in
    record {
      value = rw (c.entered_by.ensures.value, c.look_up-answer.ensures.value, going);
      looks_after = rw (c.look_up-answer.ensures.looks_after, going);
      visited_after = rw (c.entered_by.ensures.visited_after, c.look_up-answer.ensures.value, going);
      met_after = rw (c.entered_by.ensures.met_after, c.look_up-answer.ensures.value, going);
    }

pub returns-in-Stops : goal.returns-in-Stops
unfolding enter
returns-in-Stops c = let over = ended c.args.w.ending (opened c.in-Stops.in-Stops-own.keys2) in
    record {
      value = rw over;
      looks_after = rw over;
      visited_after = rw over;
      met_after = rw over;
    }
