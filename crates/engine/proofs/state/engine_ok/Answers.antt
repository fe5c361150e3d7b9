-- `engine::state::engine_ok` meets its contract: each return by the cache's own test and the summary's (`summary_ok`).
use Rattle.std.proofs.Common.{sym, ◌∙◌}
use borrow.Author.Tests.{not-true, not-false}
use Rattle.engine.proofs.SummaryLaws.{summary_ok}
use Rattle.engine.proofs.state.engine_ok.Goals as goal

pub returns-then-not-state_ok : goal.returns-then-not-state_ok
returns-then-not-state_ok c = rw (summary_ok c.args.e c.args.size, sym c.state_ok.ensures ∙ not-true _ c.if-not-state_ok.true-raw)

pub returns : goal.returns
returns c =
    let args = c.args in
    rw (
      summary_ok args.e args.size,
      sym c.state_ok.ensures ∙ not-false _ c.if-not-state_ok.false-raw,
      ← c.summary_of-held.ensures,
    ) c.passes.ensures
