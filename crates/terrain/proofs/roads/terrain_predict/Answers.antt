-- `roads::terrain_predict` meets its contract: each answer by whether the start is one.
use mathlib.Core.Path.{sym, ap, ◌∙◌}
use Rattle.predict.specs.Predict.{After}
use Rattle.terrain.specs.Records.{header_of}
use Rattle.terrain.proofs.HostLaws.{predict_words, predict_engine}
use Rattle.terrain.proofs.roads.terrain_predict.Goals as goal

pub returns : goal.returns
returns c =
    let args = c.args in
    let is = sym c.is_given.ensures ∙ c.if-not-is_given.false in
    let called_1 = rw (c.header_of-h.ensures, c.given-found.ensures) at c.predict-answer.ensures.value in
    let called_2 = rw (c.header_of-h.ensures, c.given-found.ensures) at c.predict-answer.ensures.ws_after in
    let called_3 = rw (c.header_of-h.ensures, c.given-found.ensures) at c.predict-answer.ensures.samples_after in
    let called_4 = rw (c.header_of-h.ensures, c.given-found.ensures) at c.predict-answer.ensures.behind_after in
    let whole = predict_words args.engine.now args.arena.now (header_of args.header) args.start args.horizon_m args.samples.now args.behind.now is in
    record {
      value = rw (c.predicted_out.ensures, called_1, whole);
      engine_after = called_2 ∙ sym (predict_engine args.engine.now args.arena.now (header_of args.header) args.start args.horizon_m args.samples.now args.behind.now is);
      samples_after = called_3 ∙ sym (ap (λ (a : After). a.samples) whole);
      behind_after = called_4 ∙ sym (ap (λ (a : After). a.behind) whole);
    }
