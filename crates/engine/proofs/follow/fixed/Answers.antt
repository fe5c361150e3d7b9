-- `engine::follow::fixed` meets its contract: each return by whether the fix is at the same place.
use Rattle.std.proofs.Common.{sym, ◌∙◌}
use Rattle.engine.specs.Follow.{fixed}
use Rattle.engine.proofs.follow.fixed.Goals as goal

pub returns-then-is_same_place : goal.returns-then-is_same_place
unfolding fixed
returns-then-is_same_place c = rw (sym c.is_same_place.ensures ∙ c.if-is_same_place.true)

pub returns : goal.returns
unfolding fixed
returns c =
    rw (c.seen-now.ensures, sym c.is_same_place.ensures ∙ c.if-is_same_place.false)
