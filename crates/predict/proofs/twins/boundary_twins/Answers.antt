-- `predict::twins::boundary_twins` meets its contract. The loop's invariant: the twins so far are the definition's after as many turns.
use Rattle.num.proofs.FoldLaws.{up_start, up_turn}
use Rattle.predict.specs.Twins.{twins_to}
use Rattle.predict.proofs.twins.boundary_twins.Goals as goal

pub loop-i-init : goal.loop-i-init
unfolding twins_to
loop-i-init c = rw (c.no_twins-t.ensures, up_start)

pub loop-i-preserved : goal.loop-i-preserved
unfolding twins_to
loop-i-preserved c = rw (c.twin_step-t.ensures, c.loop-i.invariant, up_turn)
