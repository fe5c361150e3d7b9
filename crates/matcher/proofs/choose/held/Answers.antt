-- `matcher::choose::held` meets its contract: each return by the tests before it, which come in another order than the definition's.
use mathlib.Core.Path.{sym, ◌∙◌}
use mathlib.Core.Bool.{and-false}
use Rattle.geo.proofs.Literals.{literal_1}
use Rattle.matcher.specs.Choose.{held}
use Rattle.matcher.proofs.choose.held.Goals as goal

pub returns-then-same : goal.returns-then-same
unfolding held
returns-then-same c = rw (sym c.same_edge-same.ensures ∙ c.if-same.true, and-false c.args.top.joined)

pub returns-then-top : goal.returns-then-top
unfolding held
returns-then-top c =
    rw (sym c.same_edge-same.ensures ∙ c.if-same.false, c.if-top.true)

pub returns-then-top-kept : goal.returns-then-top-kept
unfolding held
returns-then-top-kept c =
    rw (sym c.same_edge-same.ensures ∙ c.if-same.false, c.if-top.false, ← literal_1, c.if-top-kept.true)

pub returns : goal.returns
unfolding held
returns c =
    rw (
      ← c.contested.ensures,
      sym c.same_edge-same.ensures ∙ c.if-same.false,
      c.if-top.false,
      ← literal_1,
      c.if-top-kept.false,
    )
