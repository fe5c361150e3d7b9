-- `engine::deliver::header_came` meets its contract: each return by whether the read failed, and whether the header passes.
use Rattle.std.proofs.Common.{sym, ◌∙◌, eq-eqb, ne_eqb}
use Rattle.engine.specs.Deliver.{header_came}
use Rattle.engine.proofs.deliver.header_came.Goals as goal

pub returns-then-failure-ne0 : goal.returns-then-failure-ne0
unfolding header_came
returns-then-failure-ne0 c = rw (c.header_failed.ensures, ne_eqb _ _ c.if-failure-ne0.true)

pub returns-in-Ok : goal.returns-in-Ok
unfolding header_came
returns-in-Ok c =
    let parsed = rw c.sector_of-sector.ensures at c.parse.ensures in
    rw (c.with_failures.ensures, c.with_phase-d.ensures, eq-eqb _ _ c.if-failure-ne0.false, sym parsed ∙ c.in-Ok.is)

pub returns-in-Err : goal.returns-in-Err
unfolding header_came
returns-in-Err c =
    let parsed = rw c.sector_of-sector.ensures at c.parse.ensures in
    rw (c.header_failed-in-Err.ensures, c.number.ensures, eq-eqb _ _ c.if-failure-ne0.false, sym parsed ∙ c.in-Err.is)
