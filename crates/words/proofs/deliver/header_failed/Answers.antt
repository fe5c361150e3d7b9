-- `deliver::header_failed` meets its contract: each return by the failure and the count of failures.
use Rattle.std.proofs.Common.{sym, ◌∙◌, le-ltb, lt-ltb, eq-eqb, ne_eqb}
use Rattle.words.specs.Words.{engine_of}
use Rattle.words.proofs.CameLaws.{failures_in, header_tried, header_unread, header_given_up}
use Rattle.words.proofs.deliver.header_failed.Goals as goal
use Rattle.words.proofs.deliver.header_failed.Goals.{then-failure-eq1+else-failures-lt7, else-failure-eq1}

pub returns-then-failures-lt7 : goal.returns-then-failures-lt7
returns-then-failures-lt7 c =
    let args = c.args in
    let count = c.byte-failures.ensures ∙ sym (failures_in args.ws.now) in
    let few = rw count at (lt-ltb _ _ c.if-failures-lt7.true) in
    let tried = header_tried (engine_of args.ws.now) args.failure (eq-eqb _ _ c.if-failure-eq1.true) few in
    record {
      value = rw tried;
      ws_after = rw tried (rw count at c.put_phase.ensures);
    }

pub returns : goal.returns
returns c =
    let args = c.args in
    let e = engine_of args.ws.now in
    let count = c.byte-failures.ensures ∙ sym (failures_in args.ws.now) in
    let left = rw count at c.put_phase-2.ensures in
    record {
      value = elim c.if-failure-eq1.branch [
        | then-failure-eq1+else-failures-lt7 way ↦ rw (header_given_up e args.failure (rw count at (le-ltb _ _ way.if-failures-lt7.false)) (eq-eqb _ _ way.if-failure-eq1.true))
        | else-failure-eq1 way ↦ rw (header_unread e args.failure (ne_eqb _ _ way.if-failure-eq1.false))
      ];
      ws_after = elim c.if-failure-eq1.branch [
        | then-failure-eq1+else-failures-lt7 way ↦ rw (header_given_up e args.failure (rw count at (le-ltb _ _ way.if-failures-lt7.false)) (eq-eqb _ _ way.if-failure-eq1.true)) left
        | else-failure-eq1 way ↦ rw (header_unread e args.failure (ne_eqb _ _ way.if-failure-eq1.false)) left
      ];
    }
