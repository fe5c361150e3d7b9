-- `matcher::Matcher::update` meets its contract: each return by number 12's test.
use mathlib.Core.Path.{sym, ◌∙◌}
use borrow.Author.Tests.{not-true, not-false}
use Rattle.matcher.specs.Calls.{update}
use Rattle.matcher.proofs.Matcher.update.Goals as goal

pub returns-then-not-call_ok : goal.returns-then-not-call_ok
unfolding update
returns-then-not-call_ok c = rw (sym c.call_ok.ensures ∙ not-true _ c.if-not-call_ok.true-raw, c.refused.ensures)

pub returns : goal.returns
unfolding update
returns c = rw (sym c.call_ok.ensures ∙ not-false _ c.if-not-call_ok.false-raw) c.updated.ensures
