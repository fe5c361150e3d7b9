use Rattle.cache_lists.proofs.Claim.{always_same}
use Rattle.cache_lists.proofs.always_same.Goals as goal

pub returns : goal.returns
returns c = always_same
