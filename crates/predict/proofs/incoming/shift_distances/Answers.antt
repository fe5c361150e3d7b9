-- `predict::incoming::shift_distances` meets its contract. The loop's invariant: the first i places hold what stood one place on, and the others what they
-- held.
use mathlib.Core.Path.{◌≡◌}
use native.Mathlib.Omega.{arith}
use Rattle.predict.specs.Incoming.{shifted}
use Rattle.predict.proofs.Shift.{shift_turn, shift_end}
use Rattle.predict.proofs.incoming.shift_distances.Goals as goal

pub loop-i-preserved : goal.loop-i-preserved
loop-i-preserved c =
    let at_loop = c.loop-i in
    let long = c.sixteen_distances.ensures in
    let v = c.args.v.now in
    rw at_loop.invariant (shift_turn v at_loop.i _ (omega (arith, long, c.loop-i-test.true)))

pub returns : goal.returns
unfolding shifted
returns c =
    let at_loop = c.loop-i in
    let end : at_loop.i ≡ 15 = omega arith in
    rw (at_loop.invariant, end) (shift_end c.args.v.now)
