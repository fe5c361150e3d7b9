-- `predict::road::from_tile` meets its contract: each return by the tests of the tile.
use mathlib.Core.Path.{sym, ◌∙◌}
use borrow.Author.Tests.{not-true, not-false}
use Rattle.predict.specs.Predict.{road_of, from_tile}
use Rattle.predict.proofs.road.from_tile.Goals as goal

pub returns-then-not-same_id : goal.returns-then-not-same_id
unfolding from_tile
returns-then-not-same_id c =
    let tested = rw c.id-id.ensures at c.same_id.ensures in
    let other = sym tested ∙ not-true _ c.if-not-same_id.true-raw in
    record {
      value = rw other;
      looks_after = rw other;
      samples_after = rw other;
      behind_after = rw other;
    }

pub returns-then-not-start_ok : goal.returns-then-not-start_ok
unfolding from_tile
returns-then-not-start_ok c =
    let tested = rw c.id-id.ensures at c.same_id.ensures in
    let same = sym tested ∙ not-false _ c.if-not-same_id.false-raw in
    let outside = sym c.start_ok.ensures ∙ not-true _ c.if-not-start_ok.true-raw in
    record {
      value = rw (same, outside);
      looks_after = rw (same, outside);
      samples_after = rw (same, outside);
      behind_after = rw (same, outside);
    }

pub returns : goal.returns
unfolding from_tile road_of
returns c =
    let tested = rw c.id-id.ensures at c.same_id.ensures in
    let same = sym tested ∙ not-false _ c.if-not-same_id.false-raw in
    let inside = sym c.start_ok.ensures ∙ not-false _ c.if-not-start_ok.false-raw in
    rw (same, inside) (record {
      value = c.road_of.ensures.value;
      looks_after = c.road_of.ensures.looks_after;
      samples_after = c.road_of.ensures.samples_after;
      behind_after = c.road_of.ensures.behind_after;
    })
