-- `deliver::header_came` meets its contract: each return by whether the read failed, and whether the header passes.
use Rattle.std.proofs.Common.{sym, ◌∙◌, eq-eqb, ne_eqb}
use Rattle.engine.specs.Deliver.{header_came}
use Rattle.words.proofs.deliver.header_came.Goals as goal

pub returns-then-failure-ne0 : goal.returns-then-failure-ne0
unfolding header_came
returns-then-failure-ne0 c =
    let failed = ne_eqb _ _ c.if-failure-ne0.true in
    record {
      value = rw failed c.header_failed.ensures.value;
      ws_after = rw failed c.header_failed.ensures.ws_after;
    }

pub returns-in-Ok : goal.returns-in-Ok
unfolding header_came
returns-in-Ok c =
    let parsed = rw c.sector_of-sector.ensures at c.parse.ensures in
    let answer = sym parsed ∙ c.in-Ok.is in
    let came = eq-eqb _ _ c.if-failure-ne0.false in
    record {
      value = rw (came, answer);
      ws_after = rw (c.put_read.ensures, came, answer);
    }

pub returns-in-Err : goal.returns-in-Err
unfolding header_came
returns-in-Err c =
    let parsed = rw c.sector_of-sector.ensures at c.parse.ensures in
    let answer = sym parsed ∙ c.in-Err.is in
    let came = eq-eqb _ _ c.if-failure-ne0.false in
    record {
      value = rw (came, answer, ← c.number.ensures) c.header_failed-in-Err.ensures.value;
      ws_after = rw (came, answer, ← c.number.ensures) c.header_failed-in-Err.ensures.ws_after;
    }
