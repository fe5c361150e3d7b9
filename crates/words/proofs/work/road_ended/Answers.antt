-- `work::road_ended` meets its contract: by how the road ended.
use Rattle.std.specs.Prelude.{Ok}
use Rattle.std.proofs.Common.{sym, ap, ◌∙◌}
use Rattle.predict.specs.declared.Outcome.{Outcome}
use Rattle.engine.specs.Work.{counted}
use Rattle.words.specs.Words.{engine_of}
use Rattle.words.proofs.WordsLaws.{words_engine}
use Rattle.words.proofs.WorkLaws.{generation_in, road_published, road_refuses}
use Rattle.words.proofs.work.road_ended.Goals as goal

pub returns-in-Some : goal.returns-in-Some
returns-in-Some c =
    let ws = c.args.ws.now in
    let refuses = road_refuses (engine_of ws) c.args.fix c.args.found c.args.answer c.args.uses c.args.samples c.args.behind (sym c.road_refusal.ensures ∙ c.in-Some.is) in
    record {
      value = rw refuses;
      ws_after = rw (refuses) (sym (words_engine ws c.requires));
    }

pub returns-in-Ok-Road : goal.returns-in-Ok-Road
returns-in-Ok-Road c =
    let ws = c.args.ws.now in
    let told = c.in-Ok-Road.is ∙ ap (λ (outcome : Outcome). Ok outcome) (rw c.in-Ok-Road.is at c.in-Ok-Road.field-0-is) in
    record {
      value = rw told;
      ws_after = rw (c.road_publish.ensures, c.road_of-road.ensures, generation_in ws, told, road_published (counted (engine_of ws).follower) c.args.samples c.args.behind c.args.fix c.args.found _);
    }
