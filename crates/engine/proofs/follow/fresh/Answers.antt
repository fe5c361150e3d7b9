-- `engine::follow::fresh` meets its contract: each field by the answer of its callee, with the literal read as a whole number.
use Rattle.engine.specs.Follow.{fresh}
use Rattle.engine.proofs.Literals.{literal_10000}
use Rattle.engine.proofs.follow.fresh.Goals as goal

pub returns : goal.returns
unfolding fresh
returns c =
    rw (
      c.min.ensures,
      literal_10000,
      c.nothing_ahead-ahead.ensures,
      c.nothing_done-due.ensures,
      c.reset-matcher.ensures,
      c.nothing_seen-sight.ensures,
    )
