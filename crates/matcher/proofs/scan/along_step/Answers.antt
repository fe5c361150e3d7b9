-- `matcher::scan::along_step` meets its contract: by the answers of `metres` and `length`.
use Rattle.matcher.specs.Scan.{along_step}
use Rattle.matcher.proofs.scan.along_step.Goals as goal

pub returns : goal.returns
unfolding along_step
returns c = rw (c.length.ensures, c.metres-m.ensures)
