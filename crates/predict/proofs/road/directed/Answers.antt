-- `predict::road::directed` meets its contract: what the code answers over the numbers, closed, is the definition's answer (`looks_predict`).
use mathlib.Core.Path.{ap, ◌∙◌}
use Rattle.cache.specs.Stands.{Sized}
use Rattle.predict.specs.Predict.{After}
use Rattle.predict.proofs.InCache.{looks_predict}
use Rattle.predict.proofs.road.directed.Goals as goal

pub returns : goal.returns
returns c =
    let args = c.args in
    let sized : Sized args.c =
    record {
      slots = c.well_formed.0.1.1.0.1.1.0.1.0.1;
      used = c.well_formed.0.1.1.0.1.1.1.0.1.0.1;
    } in
    let whole = looks_predict args.c sized args.arena.now args.header args.start args.horizon_m args.samples.now args.behind.now in
    let answered_value = rw c.lookups_of-looks.ensures at c.from_looks-answer.ensures.value in
    let answered_looks_after = rw c.lookups_of-looks.ensures at c.from_looks-answer.ensures.looks_after in
    let answered_samples_after = rw c.lookups_of-looks.ensures at c.from_looks-answer.ensures.samples_after in
    let answered_behind_after = rw c.lookups_of-looks.ensures at c.from_looks-answer.ensures.behind_after in
    record {
      value = rw (c.closed.ensures, answered_value, answered_looks_after) (ap (λ (a : After). a.predicted) whole);
      samples_after = answered_samples_after ∙ ap (λ (a : After). a.samples) whole;
      behind_after = answered_behind_after ∙ ap (λ (a : After). a.behind) whole;
    }
