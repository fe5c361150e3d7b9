-- `deliver::step_from` meets its contract: refused, a fetch answered, or the work of the plan.
use Rattle.std.specs.Prelude.{Ok}
use Rattle.std.proofs.Common.{sym, ap, rules, ◌∙◌}
use Rattle.words.specs.declared.steps.Planned.{Planned}
use Rattle.words.proofs.CameLaws.{step_refused, step_works, step_fetches, opened_ok}
use Rattle.words.proofs.StepLaws.{open_accepted}
use Rattle.words.proofs.deliver.step_from.Goals as goal

pub fetched-requires : goal.fetched-requires
fetched-requires c =
    let args = c.args in
    let opens = sym c.plan_step.ensures ∙ c.in_ok-pending.was ∙ ap (λ (planned : Planned). Ok planned) c.in-Opens.is in
    record {
      ws_value = open_accepted args.ws.now args.arena.now opens;
      arena_value = opened_ok args.ws.now args.arena.now opens;
    }

pub worked-requires : goal.worked-requires
worked-requires c = sym c.plan_step.ensures ∙ c.in_ok-pending.was ∙ ap (λ (planned : Planned). Ok planned) c.in-Works.is

pub returns-in_err-pending : goal.returns-in_err-pending
returns-in_err-pending c =
    let args = c.args in
    let refused = step_refused args.ws.now args.arena.now args.pack.now (sym c.plan_step.ensures ∙ c.in_err-pending.was) in
    record {
      value = rw (refused.0, refused.1) (search rules);
      ws_after = rw refused.0;
      arena_after = rw refused.0;
    }

pub returns-in-Opens : goal.returns-in-Opens
returns-in-Opens c =
    let args = c.args in
    let fetches = step_fetches args.ws.now args.arena.now args.pack.now (sym c.plan_step.ensures ∙ c.in_ok-pending.was ∙ ap (λ (planned : Planned). Ok planned) c.in-Opens.is) in
    let fetched = c.fetched.ensures in
    record {
      value = rw fetches fetched.value;
      ws_after = rw fetches fetched.ws_after;
      arena_after = rw fetches fetched.arena_after;
    }

pub returns-in-Works : goal.returns-in-Works
returns-in-Works c =
    let args = c.args in
    let works = step_works args.ws.now args.arena.now args.pack.now (sym c.plan_step.ensures ∙ c.in_ok-pending.was ∙ ap (λ (planned : Planned). Ok planned) c.in-Works.is) in
    record {
      value = rw works c.worked.ensures.value;
      ws_after = rw works c.worked.ensures.ws_after;
      arena_after = rw works;
    }
