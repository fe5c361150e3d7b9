use Rattle.terrain_lists.proofs.Hosted.{parts_keep}
use Rattle.terrain_lists.proofs.refused_parts.Goals as goal

pub returns : goal.returns
returns c = parts_keep
