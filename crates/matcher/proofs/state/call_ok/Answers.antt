-- `matcher::state::call_ok` meets its contract: each return by the causes tested before it.
use mathlib.Core.Path.{sym, ◌∙◌}
use borrow.Author.Tests.{not-true, not-false}
use Rattle.matcher.specs.State.{call_ok}
use Rattle.matcher.proofs.state.call_ok.Goals as goal

pub returns-then-not-cache_ok : goal.returns-then-not-cache_ok
unfolding call_ok
returns-then-not-cache_ok c = rw (sym c.cache_ok.ensures ∙ not-true _ c.if-not-cache_ok.true-raw)

pub returns : goal.returns
unfolding call_ok
returns c =
    rw (sym c.cache_ok.ensures ∙ not-false _ c.if-not-cache_ok.false-raw) c.matcher_ok.ensures
