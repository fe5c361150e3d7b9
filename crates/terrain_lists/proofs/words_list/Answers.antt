use Rattle.terrain_lists.proofs.Lists.{words_list}
use Rattle.terrain_lists.proofs.words_list.Goals as goal

pub returns : goal.returns
returns c = words_list
