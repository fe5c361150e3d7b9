use Rattle.cache_lists.proofs.Claim.{always_short}
use Rattle.cache_lists.proofs.always_short.Goals as goal

pub returns : goal.returns
returns c = always_short
