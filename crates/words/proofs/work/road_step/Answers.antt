-- `work::road_step` meets its contract: over the numbers that its lookups go by, and over heights of 0 (`road_looked`).
use Rattle.std.proofs.Common.{ap, ◌∙◌}
use Rattle.engine.specs.declared.Stepped.{Stepped}
use Rattle.words.specs.Words.{engine_of, words}
use Rattle.words.proofs.LookLaws.{engine_sized}
use Rattle.words.proofs.WorkLaws.{cache_in, count_in, header_in, horizon_in, road_looked}
use Rattle.words.proofs.work.road_step.Goals as goal

pub returns : goal.returns
returns c =
    let ws = c.args.ws.now in
    let road_1 = rw (c.lookups-looks.ensures, cache_in ws, c.size.ensures ∙ count_in ws, c.header-header.ensures ∙ header_in ws, c.float-horizon_m.ensures ∙ horizon_in ws) at c.from_looks-answer.ensures.value in
    let road_2 = rw (c.lookups-looks.ensures, cache_in ws, c.size.ensures ∙ count_in ws, c.header-header.ensures ∙ header_in ws, c.float-horizon_m.ensures ∙ horizon_in ws) at c.from_looks-answer.ensures.looks_after in
    let road_3 = rw (c.lookups-looks.ensures, cache_in ws, c.size.ensures ∙ count_in ws, c.header-header.ensures ∙ header_in ws, c.float-horizon_m.ensures ∙ horizon_in ws) at c.from_looks-answer.ensures.samples_after in
    let road_4 = rw (c.lookups-looks.ensures, cache_in ws, c.size.ensures ∙ count_in ws, c.header-header.ensures ∙ header_in ws, c.float-horizon_m.ensures ∙ horizon_in ws) at c.from_looks-answer.ensures.behind_after in
    let looked = road_looked (engine_of ws) c.args.fix c.args.found (engine_sized ws) c.args.arena.now in
    record {
      value = rw (c.road_ended.ensures.value, c.uses_from-uses.ensures, road_1, road_2, road_3, road_4) (ap (λ (s : Stepped). s.answer) looked);
      ws_after = rw (c.road_ended.ensures.ws_after, c.uses_from-uses.ensures, road_1, road_2, road_3, road_4) (ap (λ (s : Stepped). words s.engine) looked);
    }
