-- `matcher::score::bonus_of` meets its contract: each return by the tests before it.
use mathlib.Core.Path.{sym, ◌∙◌}
use borrow.Author.Tests.{eq-eqb, ne_eqb, not-true, not-false}
use Rattle.geo.proofs.Literals.{literal_1}
use Rattle.matcher.specs.Score.{bonus_of}
use Rattle.matcher.proofs.score.bonus_of.Goals as goal

pub returns-then-not-same_id : goal.returns-then-not-same_id
unfolding bonus_of
returns-then-not-same_id c = rw (sym c.same_id.ensures ∙ not-true _ c.if-not-same_id.true-raw)

pub returns-then-m-number : goal.returns-then-m-number
unfolding bonus_of
returns-then-m-number c =
    rw (sym c.same_id.ensures ∙ not-false _ c.if-not-same_id.false-raw, eq-eqb _ _ c.if-m-number.true, literal_1)

pub returns-then-shares_node : goal.returns-then-shares_node
unfolding bonus_of
returns-then-shares_node c =
    rw (
      sym c.same_id.ensures ∙ not-false _ c.if-not-same_id.false-raw,
      ne_eqb _ _ c.if-m-number.false,
      ← c.edge-was.ensures,
      sym c.shares_node.ensures ∙ c.if-shares_node.true,
    )

pub returns : goal.returns
unfolding bonus_of
returns c =
    rw (
      sym c.same_id.ensures ∙ not-false _ c.if-not-same_id.false-raw,
      ne_eqb _ _ c.if-m-number.false,
      ← c.edge-was.ensures,
      sym c.shares_node.ensures ∙ c.if-shares_node.false,
    )
