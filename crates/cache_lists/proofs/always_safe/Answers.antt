use Rattle.cache_lists.proofs.Claim.{always_safe}
use Rattle.cache_lists.proofs.always_safe.Goals as goal

pub returns : goal.returns
returns c = always_safe
