use Rattle.terrain_lists.proofs.Hosted.{host_claims}
use Rattle.terrain_lists.proofs.host_claims.Goals as goal

pub returns : goal.returns
returns c = host_claims
