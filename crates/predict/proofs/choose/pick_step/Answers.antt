-- `predict::choose::pick_step` meets its contract: each return by the tests before it.
use borrow.Author.Tests.{lt-ltb, le-ltb, not-true, not-false}
use Rattle.predict.specs.Choose.{pick_step}
use Rattle.predict.proofs.choose.pick_step.Goals as goal

pub returns-then-n-i : goal.returns-then-n-i
unfolding pick_step
returns-then-n-i c = rw (le-ltb _ _ c.if-n-i.true)

pub returns-then-not-p : goal.returns-then-not-p
unfolding pick_step
returns-then-not-p c =
    rw (lt-ltb _ _ c.if-n-i.false, not-true c.args.p.any c.if-not-p.true)

pub returns-then-c-best : goal.returns-then-c-best
unfolding pick_step
returns-then-c-best c =
    rw (
      lt-ltb _ _ c.if-n-i.false,
      not-false c.args.p.any c.if-not-p.false,
      c.if-c-best.true,
      c.min.ensures,
    )

pub returns : goal.returns
unfolding pick_step
returns c =
    rw (
      lt-ltb _ _ c.if-n-i.false,
      not-false c.args.p.any c.if-not-p.false,
      c.if-c-best.false,
      c.min-2.ensures,
    )
