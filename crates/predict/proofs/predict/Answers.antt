-- `predict::predict` meets its contract: each return by number 12's test.
use mathlib.Core.Path.{sym, ◌∙◌}
use borrow.Author.Tests.{not-true, not-false}
use Rattle.predict.specs.Predict.{predict}
use Rattle.predict.proofs.predict.Goals as goal

pub returns-then-not-cache_ok : goal.returns-then-not-cache_ok
unfolding predict
returns-then-not-cache_ok c =
    let bad = sym c.cache_ok.ensures ∙ not-true _ c.if-not-cache_ok.true-raw in
    record {
      value = rw (bad, c.refused.ensures);
      samples_after = rw bad;
      behind_after = rw bad;
    }

pub returns : goal.returns
unfolding predict
returns c =
    let good = sym c.cache_ok.ensures ∙ not-false _ c.if-not-cache_ok.false-raw in
    rw good (record {
      value = c.predicted.ensures.value;
      samples_after = c.predicted.ensures.samples_after;
      behind_after = c.predicted.ensures.behind_after;
    })
