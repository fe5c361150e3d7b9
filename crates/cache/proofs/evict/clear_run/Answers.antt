-- `cache::evict::clear_run` meets its contract. The loop's invariant: clearing the pages that are left, from where the loop stands, is
-- clearing all of them from the start. Past the last page nothing is left to clear.
use Rattle.std.proofs.Common.{◌≡◌, ◌+◌, ◌-◌, sym, ◌∙◌, arith}
use Rattle.cache.proofs.Turns.{full_one, clear_turn}
use Rattle.cache.proofs.evict.clear_run.Goals as goal

pub loop-at-preserved : goal.loop-at-preserved
loop-at-preserved c =
    let at_loop = c.loop-at in
    let all = c.args.from + c.args.n in
    let e : all - (at_loop.at + 1) ≡ all - at_loop.at - 1 = omega arith in (
      rw c.empty_slot-empty.ensures (full_one at_loop.at at_loop.d at_loop.invariant.0),
      rw (c.empty_slot-empty.ensures, e) (sym (clear_turn (all - at_loop.at) at_loop.at at_loop.d (omega arith)) ∙ at_loop.invariant.1),
    )
