-- `predict::choose::pick` meets its contract. The loop's invariant: the best and the second so far are the definition's after as many turns.
-- Each place read is one of the twelve.
use mathlib.Core.Path.{◌≡◌}
use native.Mathlib.Omega.{arith}
use lib.ListN.{length}
use Rattle.num.proofs.FoldLaws.{up_start, up_turn}
use Rattle.predict.specs.Choose.{no_choice, pick_to}
use Rattle.predict.proofs.WayLaws.{at_any}
use Rattle.predict.proofs.CostLiterals.{infinite}
use Rattle.predict.proofs.choose.pick.Goals as goal

pub loop-i-init : goal.loop-i-init
unfolding pick_to
loop-i-init c = rw (infinite, c.no_choice-none.ensures, up_start)

pub loop-i-preserved : goal.loop-i-preserved
unfolding pick_to
loop-i-preserved c =
    let at_loop = c.loop-i in
    let v = c.args.c.v in
    let size : length v ≡ 12 = c.well_formed.0.1.1.0.1.0.1 in
    rw (c.pick_step-p.ensures, at_any v at_loop.i _ no_choice (omega arith), at_loop.invariant, up_turn)
