-- `deliver::deliver` meets its contract: number 12 first, then the fetch of the words themselves answered (`open_as_is`).
use Rattle.std.proofs.Common.{length, sym, ap, ◌∙◌}
use Rattle.engine.specs.Deliver.{delivered}
use Rattle.engine.specs.State.{engine_ok}
use Rattle.engine.specs.declared.Engine.{Engine}
use Rattle.words.specs.Words.{words}
use Rattle.words.proofs.CameLaws.{accepted_in, ok_in, open_as_is, deliver_refused, deliver_tested}
use Rattle.words.proofs.deliver.deliver.Goals as goal

pub returns-then-not-tested : goal.returns-then-not-tested
returns-then-not-tested c =
    let args = c.args in
    let refused = deliver_refused args.ws.now args.arena.now args.failure args.bytes.now (sym c.tested.ensures ∙ c.if-not-tested.true) in
    record {
      value = rw refused;
      ws_after = rw refused;
      arena_after = rw refused;
    }

pub came-requires : goal.came-requires
came-requires c =
    let args = c.args in
    let ok = sym c.tested.ensures ∙ c.if-not-tested.false in
    let same = open_as_is args.ws.now c.pending-pending.ensures in
    record {
      ws_value = accepted_in args.ws.now args.arena.now ok;
      arena_value = ap (λ (e : Engine). engine_ok e (length args.arena.now)) same ∙ ok_in args.ws.now args.arena.now ok;
    }

pub returns : goal.returns
returns c =
    let args = c.args in
    let arena = args.arena.now in
    let bs = args.bytes.now in
    let tested = deliver_tested args.ws.now arena args.failure bs (sym c.tested.ensures ∙ c.if-not-tested.false) in
    let same = open_as_is args.ws.now c.pending-pending.ensures in
    let came = c.came.ensures in
    record {
      value = rw tested (came.value ∙ ap (λ (e : Engine). (delivered e arena args.failure bs).answer) same);
      ws_after = rw tested (came.ws_after ∙ ap (λ (e : Engine). words (delivered e arena args.failure bs).engine) same);
      arena_after = rw tested (came.arena_after ∙ ap (λ (e : Engine). (delivered e arena args.failure bs).arena) same);
    }
