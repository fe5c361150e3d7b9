-- `deliver::part_came` meets its contract: each return by whether a tile is needed.
use Rattle.std.proofs.Common.{sym, ap, ◌∙◌}
use Rattle.engine.specs.declared.Due.{Due}
use Rattle.words.proofs.CameLaws.{due_in, none_came, some_came}
use Rattle.words.proofs.deliver.part_came.Goals as goal

pub returns-in-None : goal.returns-in-None
returns-in-None c =
    let args = c.args in
    let need = ap (λ (d : Due). d.need) (due_in args.ws.now ∙ sym c.due-due.ensures) ∙ c.in-None.is in
    let came = none_came args.ws.now args.pending args.arena.now args.failure args.bytes.now need in
    record {
      value = rw came c.refused.ensures.value;
      ws_after = rw came c.refused.ensures.ws_after;
      arena_after = rw came;
    }

pub returns-in-Some : goal.returns-in-Some
returns-in-Some c =
    let args = c.args in
    let need = ap (λ (d : Due). d.need) (due_in args.ws.now ∙ sym c.due-due.ensures) ∙ c.in-Some.is in
    let came = some_came args.ws.now args.pending args.arena.now args.failure args.bytes.now need in
    let left_1 = rw (c.loaded-l.ensures.value, c.with_pending-c.ensures, c.cache-before.ensures, c.header-header.ensures) at c.left.ensures.value in
    let left_2 = rw (c.loaded-l.ensures.value, c.with_pending-c.ensures, c.cache-before.ensures, c.header-header.ensures) at c.left.ensures.ws_after in
    let arena = rw (c.with_pending-c.ensures, c.cache-before.ensures, c.header-header.ensures) at c.loaded-l.ensures.arena_after in
    record {
      value = rw came left_1;
      ws_after = rw came left_2;
      arena_after = rw came arena;
    }
