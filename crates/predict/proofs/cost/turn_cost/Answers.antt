-- `predict::cost::turn_cost` meets its contract: each return by the pair of tests, with the literals read as whole numbers.
use Rattle.std.proofs.Common.{◌≡◌, ◌&&◌, false}
use mathlib.Core.Path.{sym, ◌∙◌}
use Rattle.predict.specs.Cost.{has_flag, turn_cost}
use Rattle.predict.proofs.WayLaws.{not_both, not_first}
use Rattle.predict.proofs.CostLiterals.{literal_4, literal_30}
use Rattle.predict.proofs.cost.turn_cost.Goals as goal
use Rattle.predict.proofs.cost.turn_cost.Goals.{else-bound-via-then-bound+else-has, else-bound-via-else-bound}

pub returns-then-has : goal.returns-then-has
unfolding turn_cost
returns-then-has c = rw (c.if-bound.true, sym c.has.ensures ∙ c.if-has.true)

pub returns : goal.returns
unfolding turn_cost
returns c =
    let other : (c.args.bound.round && has_flag c.args.next.flags 8) ≡ false =
    elim c.else-bound.branch [
      | else-bound-via-then-bound+else-has w ↦ not_both w.if-bound.true (sym w.has.ensures ∙ w.if-has.false)
      | else-bound-via-else-bound w ↦ not_first _ w.if-bound.false
    ] in
    rw (other, c.min.ensures, c.fabsf-turn.ensures, c.turn.ensures, literal_4, literal_30)
