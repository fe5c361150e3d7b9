-- `engine::fetch::stepped` meets its contract: each return by number 12's test, the open fetch, and the plan.
use Rattle.std.proofs.Common.{◌≡◌, ℕ, ◌⊎◌, List, sym, ◌∙◌}
use denote.Enum.Declared.{tag_of}
use Rattle.cache.specs.contracts.Pending as Pendings
use Rattle.engine.specs.declared.Engine.{Engine}
use Rattle.engine.specs.Steps as Steps
use borrow.Author.Tests.{not-true, not-false}
use Rattle.engine.specs.Calls.{step}
use Rattle.engine.specs.Steps.{stepped}
use Rattle.engine.proofs.PlanLaws.{plan_step, plan_in}
use Rattle.engine.proofs.StepNeeds.{fetch_repeated}
use Rattle.engine.proofs.fetch.stepped.Goals as goal
use borrow.Enum.Refused.{opened}

repeated : (e : Engine) (arena : List ℕ) → (tag_of Pendings.the_type e.shared.cache.pending ≡ 1) ⊎ ((tag_of Pendings.the_type e.shared.cache.pending ≡ 2) ⊎ (tag_of Pendings.the_type e.shared.cache.pending ≡ 3)) → stepped e arena ≡ Steps.repeated e e.shared.cache.pending
unfolding stepped
repeated e arena h = fetch_repeated e.shared.cache.pending h e arena

pub returns-then-not-engine_ok : goal.returns-then-not-engine_ok
unfolding step
returns-then-not-engine_ok c = rw (c.refused.ensures, sym c.engine_ok.ensures ∙ not-true _ c.if-not-engine_ok.true-raw)

pub returns-in_default : goal.returns-in_default
unfolding step
returns-in_default c =
    let ok = sym c.engine_ok.ensures ∙ not-false _ c.if-not-engine_ok.false-raw in
    let args = c.args in
    rw (ok, c.request_of-answer.ensures, repeated args.e args.arena.now (opened c.in_default.in_default-own.keys2))

pub road_step-requires : goal.road_step-requires
road_step-requires c =
    let ok = sym c.engine_ok.ensures ∙ not-false _ c.if-not-engine_ok.false-raw in
    rw (sym c.of_state-plan.ensures ∙ c.in-Road.is) at (plan_in c.args.e _ ok)

pub returns-in-NoPack : goal.returns-in-NoPack
unfolding step
returns-in-NoPack c =
    let ok = sym c.engine_ok.ensures ∙ not-false _ c.if-not-engine_ok.false-raw in
    let args = c.args in
    let plan = plan_step args.e args.arena.now c.in-Nothing.is in
    rw (ok, plan, sym c.of_state-plan.ensures ∙ c.in-NoPack.is)

pub returns-in-Header : goal.returns-in-Header
unfolding step
returns-in-Header c =
    let ok = sym c.engine_ok.ensures ∙ not-false _ c.if-not-engine_ok.false-raw in
    let args = c.args in
    let plan = plan_step args.e args.arena.now c.in-Nothing.is in
    rw (c.opened.ensures, ok, plan, sym c.of_state-plan.ensures ∙ c.in-Header.is)

pub returns-in-Need : goal.returns-in-Need
unfolding step
returns-in-Need c =
    let ok = sym c.engine_ok.ensures ∙ not-false _ c.if-not-engine_ok.false-raw in
    let args = c.args in
    let plan = plan_step args.e args.arena.now c.in-Nothing.is in
    rw (c.need_step.ensures, ok, plan, sym c.of_state-plan.ensures ∙ c.in-Need.is)

pub returns-in-Match : goal.returns-in-Match
unfolding step
returns-in-Match c =
    let ok = sym c.engine_ok.ensures ∙ not-false _ c.if-not-engine_ok.false-raw in
    let args = c.args in
    let plan = plan_step args.e args.arena.now c.in-Nothing.is in
    rw (c.match_step.ensures, ok, plan, sym c.of_state-plan.ensures ∙ c.in-Match.is)

pub returns-in-Road : goal.returns-in-Road
unfolding step
returns-in-Road c =
    let ok = sym c.engine_ok.ensures ∙ not-false _ c.if-not-engine_ok.false-raw in
    let args = c.args in
    let plan = plan_step args.e args.arena.now c.in-Nothing.is in
    rw (c.road_step.ensures, ok, plan, sym c.of_state-plan.ensures ∙ c.in-Road.is)

pub returns-in-Roadless : goal.returns-in-Roadless
unfolding step
returns-in-Roadless c =
    let ok = sym c.engine_ok.ensures ∙ not-false _ c.if-not-engine_ok.false-raw in
    let args = c.args in
    let plan = plan_step args.e args.arena.now c.in-Nothing.is in
    rw (c.road_dropped.ensures, ok, plan, sym c.of_state-plan.ensures ∙ c.in-Roadless.is)

pub returns-in-Off : goal.returns-in-Off
unfolding step
returns-in-Off c =
    let ok = sym c.engine_ok.ensures ∙ not-false _ c.if-not-engine_ok.false-raw in
    let args = c.args in
    let plan = plan_step args.e args.arena.now c.in-Nothing.is in
    rw (c.left_map.ensures, ok, plan, sym c.of_state-plan.ensures ∙ c.in-Off.is)

pub returns-in-Rest : goal.returns-in-Rest
unfolding step
returns-in-Rest c =
    let ok = sym c.engine_ok.ensures ∙ not-false _ c.if-not-engine_ok.false-raw in
    let args = c.args in
    let plan = plan_step args.e args.arena.now c.in-Nothing.is in
    rw (c.wrapping_add_u32-steps.ensures.value, ok, plan, sym c.of_state-plan.ensures ∙ c.in-Rest.is)
