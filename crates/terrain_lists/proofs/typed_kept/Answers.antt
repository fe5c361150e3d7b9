use Rattle.terrain_lists.proofs.Kept.{typed_kept}
use Rattle.terrain_lists.proofs.typed_kept.Goals as goal

pub returns : goal.returns
returns c = typed_kept
