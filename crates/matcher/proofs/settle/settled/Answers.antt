-- `matcher::settle::settled` meets its contract: by the answers of the callees.
use Rattle.matcher.specs.Settle.{settled}
use Rattle.matcher.proofs.settle.settled.Goals as goal

pub returns : goal.returns
unfolding settled
returns c =
    rw (
      c.with_figures-matched.ensures,
      c.ridden-gone.ensures,
      c.run_from-from_m.ensures,
      c.direction-forward.ensures,
      c.confidence-sure.ensures,
      c.runner_up-runner.ensures,
      c.left_of-left.ensures,
    )
