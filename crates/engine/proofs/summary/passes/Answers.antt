-- `engine::summary::passes` meets its contract: each return by the causes tested before it.
use Rattle.std.proofs.Common.{sym, ◌∙◌}
use borrow.Author.Tests.{not-true, not-false}
use Rattle.engine.specs.Summaries.{passes}
use Rattle.engine.proofs.summary.passes.Goals as goal

pub returns-then-not-shared_ok : goal.returns-then-not-shared_ok
unfolding passes
returns-then-not-shared_ok c = rw (sym c.shared_ok.ensures ∙ not-true _ c.if-not-shared_ok.true-raw)

pub returns-then-not-follower_ok : goal.returns-then-not-follower_ok
unfolding passes
returns-then-not-follower_ok c =
    rw (
      sym c.shared_ok.ensures ∙ not-false _ c.if-not-shared_ok.false-raw,
      sym c.follower_ok.ensures ∙ not-true _ c.if-not-follower_ok.true-raw,
    )

pub returns : goal.returns
unfolding passes
returns c =
    rw (
      sym c.shared_ok.ensures ∙ not-false _ c.if-not-shared_ok.false-raw,
      sym c.follower_ok.ensures ∙ not-false _ c.if-not-follower_ok.false-raw,
    ) c.pending_ok.ensures
