-- THE THEOREM: the four claims, of every list of calls from a fresh cache of any page count over any arena. A fresh cache has the
-- invariants, and they hold along the list.
use mathlib.Core.Path.{refl}
use Rattle.cache.specs.State.{fresh}
use Rattle.cache_lists.specs.Lists.{start}
use Rattle.cache_lists.specs.Claims.{AlwaysSafe, AlwaysShort, AlwaysSame, AlwaysOpen}
use Rattle.cache_lists.proofs.Inv.{inv_fresh}
use Rattle.cache_lists.proofs.Safe.{safe_along, short_along}
use Rattle.cache_lists.proofs.Kept.{kept_fresh}
use Rattle.cache_lists.proofs.Same.{same_along, open_along}

pub always_safe : AlwaysSafe
always_safe n few arena cs = safe_along cs (start n arena) (inv_fresh n few)

pub always_short : AlwaysShort
always_short n few arena cs = short_along cs (start n arena) (inv_fresh n few)

pub always_same : AlwaysSame
always_same P n few arena cs fair = same_along P n cs (start n arena) (kept_fresh P _ n arena few) fair

pub always_open : AlwaysOpen
unfolding fresh
always_open P n few arena holds cs fair = open_along P n cs (start n arena) (kept_fresh P _ n arena few) holds refl fair
