-- `matcher::choose::past_node` meets its contract: each return by the test of the node and the candidate found, with the literal read as a
-- whole number.
use mathlib.Core.Path.{sym, ◌∙◌}
use borrow.Author.Tests.{not-true, not-false}
use Rattle.matcher.specs.Choose.{past_node}
use Rattle.matcher.proofs.Literals.{literal_2}
use Rattle.matcher.proofs.choose.past_node.Goals as goal

pub returns-then-not-chosen : goal.returns-then-not-chosen
unfolding past_node
returns-then-not-chosen c = rw (not-true c.args.choice.chosen.at_node c.if-not-chosen.true)

pub returns-in-None : goal.returns-in-None
unfolding past_node
returns-in-None c =
    rw (
      ← literal_2,
      sym c.least_of.ensures ∙ c.in-None.is,
      not-false c.args.choice.chosen.at_node c.if-not-chosen.false,
    )

pub returns-in-Some : goal.returns-in-Some
unfolding past_node
returns-in-Some c =
    rw (
      ← literal_2,
      sym c.least_of.ensures ∙ c.in-Some.is,
      not-false c.args.choice.chosen.at_node c.if-not-chosen.false,
      c.candidate_in.ensures,
    )
