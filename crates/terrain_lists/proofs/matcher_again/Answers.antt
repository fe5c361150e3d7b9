use Rattle.terrain_lists.proofs.Lists.{matcher_again}
use Rattle.terrain_lists.proofs.matcher_again.Goals as goal

pub returns : goal.returns
returns c = matcher_again
