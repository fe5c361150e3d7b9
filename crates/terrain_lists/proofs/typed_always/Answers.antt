use Rattle.terrain_lists.proofs.Kept.{typed_always}
use Rattle.terrain_lists.proofs.typed_always.Goals as goal

pub returns : goal.returns
returns c = typed_always
