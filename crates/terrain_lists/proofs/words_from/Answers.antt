use Rattle.terrain_lists.proofs.Lists.{words_from}
use Rattle.terrain_lists.proofs.words_from.Goals as goal

pub returns : goal.returns
returns c = words_from
