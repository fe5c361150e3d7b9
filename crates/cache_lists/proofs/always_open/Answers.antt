use Rattle.cache_lists.proofs.Claim.{always_open}
use Rattle.cache_lists.proofs.always_open.Goals as goal

pub returns : goal.returns
returns c = always_open
