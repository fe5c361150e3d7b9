-- `matcher::settle::matched` meets its contract: each return by whether there is a cheapest candidate.
use mathlib.Core.Path.{sym, ◌∙◌}
use Rattle.matcher.specs.Settle.{matched}
use Rattle.matcher.proofs.settle.matched.Goals as goal

pub returns-in-None : goal.returns-in-None
unfolding matched
returns-in-None c = rw (sym c.least_of.ensures ∙ c.in-None.is, c.missed.ensures)

pub returns-in-Some : goal.returns-in-Some
unfolding matched
returns-in-Some c =
    rw (
      sym c.least_of.ensures ∙ c.in-Some.is,
      c.settled.ensures,
      c.past_node-on.ensures,
      c.chosen_by-choice.ensures,
      c.candidate_in-top.ensures,
    )
