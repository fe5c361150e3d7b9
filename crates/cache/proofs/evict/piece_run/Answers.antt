-- `cache::evict::piece_run` meets its contract. The loop's invariant: writing the pages that are left, from where the loop stands, is
-- writing all of them from the start. Past the last page nothing is left to write.
use Rattle.std.proofs.Common.{◌≡◌, ◌+◌, ◌-◌, sym, ◌∙◌, arith, length-set}
use Rattle.cache.proofs.Turns.{piece_turn}
use Rattle.cache.proofs.evict.piece_run.Goals as goal

pub loop-at-preserved : goal.loop-at-preserved
loop-at-preserved c =
    let at_loop = c.loop-at in
    let all = c.args.from + c.args.n in
    let e : all - (at_loop.at + 1) ≡ all - at_loop.at - 1 = omega arith in (
      rw length-set at_loop.invariant.0,
      rw e (sym (piece_turn (all - at_loop.at) at_loop.at at_loop.d c.args.head (omega arith)) ∙ at_loop.invariant.1),
    )
