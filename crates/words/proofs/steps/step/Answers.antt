-- `steps::step` meets its contract: refused, a fetch left open, or the work of the plan.
use Rattle.std.specs.Prelude.{Ok}
use Rattle.std.proofs.Common.{sym, ap, rules, ◌∙◌}
use Rattle.words.specs.declared.steps.Planned.{Planned}
use Rattle.words.proofs.StepLaws.{step_refused, open_accepted, open_is, works_is}
use Rattle.words.proofs.steps.step.Goals as goal

pub returns-in_err-pending : goal.returns-in_err-pending
returns-in_err-pending c =
    let refused = step_refused c.args.ws.now c.args.arena.now (sym c.plan_step.ensures ∙ c.in_err-pending.was) in
    record {
      value = rw (refused.0, refused.1) (search rules);
      ws_after = rw refused.0;
    }

pub opened-requires : goal.opened-requires
opened-requires c =
    open_accepted c.args.ws.now c.args.arena.now (sym c.plan_step.ensures ∙ c.in_ok-pending.was ∙ ap (λ (planned : Planned). Ok planned) c.in-Opens.is)

pub worked-requires : goal.worked-requires
worked-requires c = sym c.plan_step.ensures ∙ c.in_ok-pending.was ∙ ap (λ (planned : Planned). Ok planned) c.in-Works.is

pub returns-in-Opens : goal.returns-in-Opens
returns-in-Opens c =
    let opens = open_is c.args.ws.now c.args.arena.now (sym c.plan_step.ensures ∙ c.in_ok-pending.was ∙ ap (λ (planned : Planned). Ok planned) c.in-Opens.is) in
    record {
      value = rw opens c.opened.ensures.value;
      ws_after = rw opens c.opened.ensures.ws_after;
    }

pub returns-in-Works : goal.returns-in-Works
returns-in-Works c =
    let works = works_is c.args.ws.now c.args.arena.now (sym c.plan_step.ensures ∙ c.in_ok-pending.was ∙ ap (λ (planned : Planned). Ok planned) c.in-Works.is) in
    record {
      value = rw works c.worked.ensures.value;
      ws_after = rw works c.worked.ensures.ws_after;
    }
