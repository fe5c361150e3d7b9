-- `engine::summary::follower_ok` meets its contract: each return by the causes tested before it.
use Rattle.std.proofs.Common.{sym, ◌∙◌}
use mathlib.Core.Bool.{and-true}
use borrow.Author.Tests.{not-true, not-false}
use Rattle.engine.specs.Summaries.{follower_in}
use Rattle.engine.proofs.summary.follower_ok.Goals as goal

pub returns-then-not-due_ok : goal.returns-then-not-due_ok
unfolding follower_in
returns-then-not-due_ok c = rw (sym c.due_ok.ensures ∙ not-true _ c.if-not-due_ok.true-raw)

pub returns-then-not-sight_ok : goal.returns-then-not-sight_ok
unfolding follower_in
returns-then-not-sight_ok c =
    rw (
      sym c.due_ok.ensures ∙ not-false _ c.if-not-due_ok.false-raw,
      sym c.sight_ok.ensures ∙ not-true _ c.if-not-sight_ok.true-raw,
    )

pub returns-then-not-matcher_ok : goal.returns-then-not-matcher_ok
unfolding follower_in
returns-then-not-matcher_ok c =
    rw (
      sym c.due_ok.ensures ∙ not-false _ c.if-not-due_ok.false-raw,
      sym c.sight_ok.ensures ∙ not-false _ c.if-not-sight_ok.false-raw,
      sym c.matcher_ok.ensures ∙ not-true _ c.if-not-matcher_ok.true-raw,
    )

pub returns-then-not-ahead_ok : goal.returns-then-not-ahead_ok
unfolding follower_in
returns-then-not-ahead_ok c =
    rw (
      sym c.due_ok.ensures ∙ not-false _ c.if-not-due_ok.false-raw,
      sym c.sight_ok.ensures ∙ not-false _ c.if-not-sight_ok.false-raw,
      sym c.matcher_ok.ensures ∙ not-false _ c.if-not-matcher_ok.false-raw,
      sym c.ahead_ok.ensures ∙ not-true _ c.if-not-ahead_ok.true-raw,
    )

pub returns : goal.returns
unfolding follower_in
returns c =
    rw (
      sym c.due_ok.ensures ∙ not-false _ c.if-not-due_ok.false-raw,
      sym c.sight_ok.ensures ∙ not-false _ c.if-not-sight_ok.false-raw,
      sym c.matcher_ok.ensures ∙ not-false _ c.if-not-matcher_ok.false-raw,
      sym c.ahead_ok.ensures ∙ not-false _ c.if-not-ahead_ok.false-raw,
      c.failures_ok.ensures,
      and-true,
    )
