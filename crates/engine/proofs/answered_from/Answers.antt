-- `engine::answered_from` meets its contract: each return by whether the pack has the bytes (`bytes_there`, `bytes_past`).
use Rattle.std.specs.Prelude.{Ok, Err}
use Rattle.refusal.specs.declared.Refusal.{Refusal}
use Rattle.std.proofs.Common.{◌≡◌, ℕ, ◌+◌, ◌-◌, List, [], take, drop, sym, ◌∙◌, arith}
use Rattle.pack.specs.Grid.{read}
use Rattle.pack.proofs.Laws.{read_at}
use Rattle.engine.specs.declared.Engine.{Engine}
use Rattle.engine.specs.Calls.{deliver, answered_from}
use Rattle.engine.proofs.answered_from.Goals as goal

module _ (e : Engine) (arena : List ℕ) (offset len : ℕ) (pack : List ℕ) where
  bytes_there : {a : ℕ} → read pack offset len ≡ Ok a
      → answered_from e arena offset len pack ≡ deliver e arena 0 (take (a + len - a) (drop a pack))
  unfolding answered_from
  bytes_there {a} there = let long : a + len - a ≡ len = omega arith in rw (there, long)

  bytes_past : {n : Refusal} → read pack offset len ≡ Err n → answered_from e arena offset len pack ≡ deliver e arena 2 []
  unfolding answered_from
  bytes_past past = rw past

pub overflow_add-at : goal.overflow_add-at
overflow_add-at c =
    omega (arith, read_at _ _ _ (sym c.read.ensures ∙ c.in-Ok.is))

pub slice_bounds-deliver-end : goal.slice_bounds-deliver-end
slice_bounds-deliver-end c =
    omega (arith, read_at _ _ _ (sym c.read.ensures ∙ c.in-Ok.is))

pub returns-in-Ok : goal.returns-in-Ok
returns-in-Ok c =
    let args = c.args in
    let told = sym c.read.ensures ∙ c.in-Ok.is in
    let there = bytes_there args.e args.arena.now args.offset args.len args.pack.now told in
    let call = c.deliver in
    record {
      value = rw there call.ensures.value;
      arena_after = rw there call.ensures.arena_after;
    }

pub returns-in-Err : goal.returns-in-Err
returns-in-Err c =
    let args = c.args in
    let told = sym c.read.ensures ∙ c.in-Err.is in
    let past = bytes_past args.e args.arena.now args.offset args.len args.pack.now told in
    let call = c.deliver-in-Err in
    record {
      value = rw past call.ensures.value;
      arena_after = rw past call.ensures.arena_after;
    }
