-- `predict::incoming::shift` meets its contract. The loop's invariant: the first i places hold what stood one place on, and the others what they
-- held.
use mathlib.Core.Path.{◌≡◌}
use native.Mathlib.Omega.{arith}
use mir.Syntax.{w32}
use Rattle.predict.proofs.Signed.{got}
use Rattle.predict.specs.Incoming.{shifted}
use Rattle.predict.proofs.Shift.{shift_turn, shift_end}
use Rattle.predict.proofs.incoming.shift.Goals as goal

pub loop-i-preserved : goal.loop-i-preserved
loop-i-preserved c =
    let at_loop = c.loop-i in
    let long = c.sixteen.ensures in
    let v = c.args.v.now in
    rw (got w32 c.v-1.given, at_loop.invariant) (shift_turn v at_loop.i _ (omega (arith, long, c.loop-i-test.true)))

pub returns : goal.returns
unfolding shifted
returns c =
    let at_loop = c.loop-i in
    let end : at_loop.i ≡ 15 = omega arith in
    rw (at_loop.invariant, end) (shift_end c.args.v.now)
