-- `engine::fixes::shift` meets its contract. The loop's invariant: the first i places hold what stood one place on, and the others what they
-- held.
use Rattle.std.proofs.Common.{◌≡◌, length, ◌∙◌, arith, length-set}
use Rattle.predict.proofs.Shift.{shift_turn, shift_end}
use Rattle.engine.specs.Fixes.{shifted}
use Rattle.engine.proofs.fixes.shift.Goals as goal

pub loop-i-preserved : goal.loop-i-preserved
loop-i-preserved c =
    let at_loop = c.loop-i in
    let v = c.args.h.v in
    let size : length v ≡ 16 = c.well_formed.0.1.1.0.1.0.1 in (
      length-set at_loop.d.v at_loop.i _ ∙ at_loop.invariant.0,
      (rw at_loop.invariant.1.0 (shift_turn v at_loop.i _ (omega (arith, c.loop-i-test.true))), at_loop.invariant.1.1),
    )

pub returns : goal.returns
unfolding shifted
returns c =
    let at_loop = c.loop-i in
    let end : at_loop.i ≡ 15 = omega arith in
    rw (← shift_end c.args.h.v, ← end, ← at_loop.invariant.1.0, ← at_loop.invariant.1.1)
