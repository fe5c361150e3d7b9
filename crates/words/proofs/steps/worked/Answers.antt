-- `steps::worked` meets its contract: by the plan.
use Rattle.std.proofs.Common.{sym, true≢false}
use Rattle.words.proofs.StepLaws.{works_accepted, works_by_plan, works_need, no_header}
use Rattle.words.proofs.WordsLaws.{words_engine}
use Rattle.words.proofs.steps.worked.Goals as goal

pub rested-requires : goal.rested-requires
rested-requires c = works_accepted c.args.ws.now c.args.arena.now c.requires

pub match_step-requires : goal.match_step-requires
match_step-requires c = works_accepted c.args.ws.now c.args.arena.now c.requires

pub road_step-requires : goal.road_step-requires
road_step-requires c = works_accepted c.args.ws.now c.args.arena.now c.requires

pub settled-requires : goal.settled-requires
settled-requires c = works_accepted c.args.ws.now c.args.arena.now c.requires

pub road_dropped-requires : goal.road_dropped-requires
road_dropped-requires c = works_accepted c.args.ws.now c.args.arena.now c.requires

pub left_map-requires : goal.left_map-requires
left_map-requires c = works_accepted c.args.ws.now c.args.arena.now c.requires

pub returns-in-Rest : goal.returns-in-Rest
returns-in-Rest c =
    let works = works_by_plan c.args.ws.now c.args.arena.now c.requires c.in-Rest.is in
    record {
      value = rw (c.rested.ensures.value, works);
      ws_after = rw works c.rested.ensures.ws_after;
    }

pub returns-in-Match : goal.returns-in-Match
returns-in-Match c =
    let works = works_by_plan c.args.ws.now c.args.arena.now c.requires c.in-Match.is in
    record {
      value = rw works c.match_step.ensures.value;
      ws_after = rw works c.match_step.ensures.ws_after;
    }

pub returns-in-Road : goal.returns-in-Road
returns-in-Road c =
    let works = works_by_plan c.args.ws.now c.args.arena.now c.requires c.in-Road.is in
    record {
      value = rw works c.road_step.ensures.value;
      ws_after = rw works c.road_step.ensures.ws_after;
    }

pub returns-in-NoPack : goal.returns-in-NoPack
returns-in-NoPack c =
    let works = works_by_plan c.args.ws.now c.args.arena.now c.requires c.in-NoPack.is in
    record {
      value = rw works;
      ws_after = rw works (sym (words_engine c.args.ws.now (works_accepted c.args.ws.now c.args.arena.now c.requires)));
    }

pub returns-in-Header : goal.returns-in-Header
returns-in-Header c = record { value = absurd (true≢false (no_header c.args.ws.now c.args.arena.now c.requires c.in-Header.is)); ws_after = absurd (true≢false (no_header c.args.ws.now c.args.arena.now c.requires c.in-Header.is)) }

pub returns-in-Need : goal.returns-in-Need
returns-in-Need c =
    let works = works_need c.args.ws.now c.args.arena.now c.requires c.in-Need.is in
    record {
      value = rw works c.settled.ensures.value;
      ws_after = rw works c.settled.ensures.ws_after;
    }

pub returns-in-Roadless : goal.returns-in-Roadless
returns-in-Roadless c =
    let works = works_by_plan c.args.ws.now c.args.arena.now c.requires c.in-Roadless.is in
    record {
      value = rw (c.road_dropped.ensures.value, works);
      ws_after = rw works c.road_dropped.ensures.ws_after;
    }

pub returns-in-Off : goal.returns-in-Off
returns-in-Off c =
    let works = works_by_plan c.args.ws.now c.args.arena.now c.requires c.in-Off.is in
    record {
      value = rw (c.left_map.ensures.value, works);
      ws_after = rw works c.left_map.ensures.ws_after;
    }
