-- `engine::follow::reset` meets its contract: each field by the answer of its callee.
use Rattle.engine.specs.Follow.{reset}
use Rattle.engine.proofs.follow.reset.Goals as goal

pub returns : goal.returns
unfolding reset
returns c =
    rw (
      c.forgotten-ahead.ensures,
      c.nothing_done-due.ensures,
      c.has_fix.ensures,
      c.reset-matcher.ensures,
    )
