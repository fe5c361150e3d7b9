-- `engine::summary::summary_of` meets its contract: part by part.
use Rattle.std.proofs.Common.{refl}
use Rattle.engine.specs.Summaries.{summary_of}
use Rattle.engine.proofs.summary.summary_of.Goals as goal

pub returns : goal.returns
unfolding summary_of
returns c = refl
