-- `engine::work::road_step` meets its contract: a road that refuses the step, and any other.
use Rattle.std.proofs.Common.{sym, ◌∙◌}
use Rattle.engine.proofs.StepNeeds.{road_refused, road_ended}
use Rattle.engine.specs.Work.{road_step}
use Rattle.engine.proofs.work.road_step.Goals as goal

pub returns-in-Some : goal.returns-in-Some
unfolding road_step
returns-in-Some c =
    let road = rw c.requires at c.predicted-p.ensures.value in
    let fails = rw road at (sym c.road_refusal.ensures ∙ c.in-Some.is) in
    rw (c.refused.ensures, road_refused _ _ fails c.args.e _ c.args.fix c.args.found _)

pub returns : goal.returns
unfolding road_step
returns c =
    let road = rw c.requires at c.predicted-p.ensures.value in
    let samples = rw c.requires at c.predicted-p.ensures.samples_after in
    let behind = rw c.requires at c.predicted-p.ensures.behind_after in
    let stays = rw road at (sym c.road_refusal.ensures ∙ c.in_default.is) in
    rw (c.road_leaves-after.ensures, c.counted-f.ensures, road, samples, behind, road_ended _ stays c.args.e _ c.args.fix c.args.found _)
