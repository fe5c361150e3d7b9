-- `steps::plan_step` meets its contract: number 12 first, then by the summary.
use Rattle.std.specs.Prelude.{Ok}
use Rattle.std.proofs.Common.{sym, ap, ◌∙◌}
use Rattle.words.specs.declared.steps.Planned.{Planned}
use Rattle.words.proofs.StepLaws.{tested_is, planned_not, planned_by}
use Rattle.words.proofs.steps.plan_step.Goals as goal

pub returns-then-not-cache_ok : goal.returns-then-not-cache_ok
returns-then-not-cache_ok c = let args = c.args in rw (planned_not args.ws.now args.size (rw (tested_is args.ws.now args.size, sym c.cache_ok.ensures ∙ c.if-not-cache_ok.true)))

pub returns-then-not-passes : goal.returns-then-not-passes
returns-then-not-passes c = let args = c.args in rw (planned_not args.ws.now args.size (rw (tested_is args.ws.now args.size, sym c.cache_ok.ensures ∙ c.if-not-cache_ok.false, ← c.summary-s.ensures, sym c.passes.ensures ∙ c.if-not-passes.true)))

pub returns : goal.returns
returns c =
    let args = c.args in
    rw (planned_by args.ws.now args.size (rw (tested_is args.ws.now args.size, sym c.cache_ok.ensures ∙ c.if-not-cache_ok.false, ← c.summary-s.ensures, sym c.passes.ensures ∙ c.if-not-passes.false)) c.summary-s.ensures, ← c.plan-plan.ensures) (ap (λ (planned : Planned). Ok planned) c.planned_by.ensures)
