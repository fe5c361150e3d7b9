-- `predict::decide::decide` meets its contract: each return by what the pick tells.
use mathlib.Core.Path.{sym, ◌∙◌}
use borrow.Author.Tests.{not-true, not-false}
use Rattle.predict.specs.Decide.{decide}
use Rattle.predict.proofs.decide.decide.Goals as goal

pub returns-then-not-p : goal.returns-then-not-p
unfolding decide
returns-then-not-p c =
    let picked = c.pick-p in
    rw (← picked.ensures, not-true picked.result.any c.if-not-p.true, c.no_way.ensures)

pub returns-then-is_finite : goal.returns-then-is_finite
unfolding decide
returns-then-is_finite c =
    let picked = c.pick-p in
    rw (
      ← picked.ensures,
      not-false picked.result.any c.if-not-p.false,
      sym c.is_finite.ensures ∙ c.if-is_finite.true,
      c.choice.ensures,
    )

pub returns : goal.returns
unfolding decide
returns c =
    let picked = c.pick-p in
    rw (
      ← picked.ensures,
      not-false picked.result.any c.if-not-p.false,
      sym c.is_finite.ensures ∙ c.if-is_finite.false,
      c.go.ensures,
    )
