-- `deliver::answered` meets its contract: each return by whether the pack has the bytes (`read_there`, `read_past`).
use Rattle.std.proofs.Common.{sym, ◌∙◌, arith}
use Rattle.pack.proofs.Laws.{read_at}
use Rattle.words.specs.Opens.{opened_as}
use Rattle.words.specs.Words.{engine_of}
use Rattle.words.proofs.CameLaws.{read_there, read_past}
use Rattle.words.proofs.deliver.answered.Goals as goal

pub overflow_add-at : goal.overflow_add-at
overflow_add-at c = omega (arith, read_at _ _ _ (sym c.read.ensures ∙ c.in-Ok.is))

pub slice_bounds-came-end : goal.slice_bounds-came-end
slice_bounds-came-end c = omega (arith, read_at _ _ _ (sym c.read.ensures ∙ c.in-Ok.is))

pub returns-in-Ok : goal.returns-in-Ok
returns-in-Ok c =
    let args = c.args in
    let told = sym c.read.ensures ∙ c.in-Ok.is in
    let there = read_there (opened_as (engine_of args.ws.now) args.pending) args.arena.now args.offset args.len args.pack.now c.requires.arena_value told in
    let came = c.came.ensures in
    record {
      value = rw there came.value;
      ws_after = rw there came.ws_after;
      arena_after = rw there came.arena_after;
    }

pub returns-in-Err : goal.returns-in-Err
returns-in-Err c =
    let args = c.args in
    let told = sym c.read.ensures ∙ c.in-Err.is in
    let past = read_past (opened_as (engine_of args.ws.now) args.pending) args.arena.now args.offset args.len args.pack.now c.requires.arena_value told in
    let came = c.came-in-Err.ensures in
    record {
      value = rw past came.value;
      ws_after = rw past came.ws_after;
      arena_after = rw past came.arena_after;
    }
