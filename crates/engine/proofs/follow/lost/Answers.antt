-- `engine::follow::lost` meets its contract: each return by whether there was a match, and the answers of its callees.
use Rattle.std.proofs.Common.{sym, ◌∙◌}
use Rattle.engine.specs.Follow.{lost}
use Rattle.engine.proofs.follow.lost.Goals as goal

pub returns-then-is_matched : goal.returns-then-is_matched
unfolding lost
returns-then-is_matched c =
    rw (
      c.forgotten-ahead.ensures,
      c.reset-matcher.ensures,
      c.lost-sight.ensures,
      sym c.is_matched.ensures ∙ c.if-is_matched.true,
    )

pub returns-else-is_matched : goal.returns-else-is_matched
unfolding lost
returns-else-is_matched c =
    rw (
      c.reset-matcher.ensures,
      c.lost-sight.ensures,
      sym c.is_matched.ensures ∙ c.if-is_matched.false,
    )
