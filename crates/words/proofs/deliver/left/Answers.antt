-- `deliver::left` meets its contract: each return by what the step of the load answers.
use Rattle.std.proofs.Common.{ap, ◌∙◌}
use Rattle.cache.specs.declared.Progress.{Progress}
use Rattle.std.specs.Prelude.{Ok}
use Rattle.engine.specs.Deliver.{arrived, load_failed}
use Rattle.words.proofs.deliver.left.Goals as goal

pub returns-in-Ok-Done : goal.returns-in-Ok-Done
unfolding arrived
returns-in-Ok-Done c =
    let done = (c.in-Ok-Done.is ∙ ap (λ (l : Progress). Ok l) (rw c.in-Ok-Done.is at c.in-Ok-Done.field-0-is)) in
    record {
      value = rw done;
      ws_after = rw done c.put_done.ensures;
    }

pub returns-in-Ok-Failed : goal.returns-in-Ok-Failed
unfolding load_failed
returns-in-Ok-Failed c =
    let failed = (c.in-Ok-Failed.is ∙ ap (λ (l : Progress). Ok l) (rw c.in-Ok-Failed.is at c.in-Ok-Failed.field-0-is)) in
    record {
      value = rw failed c.put_failed.ensures.value;
      ws_after = rw failed c.put_failed.ensures.ws_after;
    }
