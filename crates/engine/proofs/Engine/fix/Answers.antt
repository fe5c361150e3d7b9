-- `engine::Engine::fix` meets its contract: each return by the tests that led there; the place is read back from its bits.
use Rattle.std.proofs.Common.{sym, ◌∙◌, w32}
use borrow.Author.Tests.{not-true, not-false}
use Rattle.pack.proofs.Signed.{got}
use Rattle.engine.specs.Calls.{fix}
use Rattle.engine.proofs.Engine.fix.Goals as goal

pub returns-then-not-engine_ok : goal.returns-then-not-engine_ok
unfolding fix
returns-then-not-engine_ok c = rw (sym c.engine_ok.ensures ∙ not-true _ c.if-not-engine_ok.true-raw) c.unchanged.ensures

pub returns-then-not-is_point : goal.returns-then-not-is_point
unfolding fix
returns-then-not-is_point c =
    let tested = rw (got w32 c.struct_told-1.given.0.1, got w32 c.struct_told-2-1.given.1.0.1) at c.is_point.ensures in
    rw (
      sym c.engine_ok.ensures ∙ not-false _ c.if-not-engine_ok.false-raw,
      sym tested ∙ not-true _ c.if-not-is_point.true-raw,
    ) c.unchanged-then-not-is_point.ensures

pub returns : goal.returns
unfolding fix
returns c =
    let tested = rw (got w32 c.struct_told-1.given.0.1, got w32 c.struct_told-2-1.given.1.0.1) at c.is_point.ensures in
    rw (
      sym c.engine_ok.ensures ∙ not-false _ c.if-not-engine_ok.false-raw,
      sym tested ∙ not-false _ c.if-not-is_point.false-raw,
      ← c.fixed-after.ensures,
    ) c.followed.ensures
