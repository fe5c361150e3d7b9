-- `engine::deliver::header_failed` meets its contract: each return by the failure and the count of failures.
use Rattle.std.proofs.Common.{le-ltb, lt-ltb, eq-eqb, ne_eqb}
use Rattle.engine.specs.Deliver.{header_failed}
use Rattle.engine.proofs.deliver.header_failed.Goals as goal
use Rattle.engine.proofs.deliver.header_failed.Goals.{then-failure-eq1+else-f-lt7, else-failure-eq1}

pub returns-then-f-lt7 : goal.returns-then-f-lt7
unfolding header_failed
returns-then-f-lt7 c =
    rw (
      c.with_failures.ensures,
      c.with_phase-d.ensures,
      eq-eqb _ _ c.if-failure-eq1.true,
      lt-ltb _ _ c.if-f-lt7.true,
    )

pub returns : goal.returns
unfolding header_failed
returns c =
    elim c.if-failure-eq1.branch [
      | then-failure-eq1+else-f-lt7 way ↦ rw (c.with_failures-2.ensures, c.with_phase-d-2.ensures, eq-eqb _ _ way.if-failure-eq1.true, le-ltb _ _ way.if-f-lt7.false)
      | else-failure-eq1 way ↦ rw (c.with_failures-2.ensures, c.with_phase-d-2.ensures, ne_eqb _ _ way.if-failure-eq1.false)
    ]
