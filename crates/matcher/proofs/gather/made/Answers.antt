-- `matcher::gather::made` meets its contract: a match from what the lookups land on, and the ages of the tiles gone through (`made_by_cache`).
use Rattle.matcher.proofs.GatherLaws.{searched_tiles, made_by_cache}
use Rattle.matcher.proofs.gather.made.Goals as goal

pub uses_after-uses-requires : goal.uses_after-uses-requires
uses_after-uses-requires c = rw c.searched-s.ensures (searched_tiles _ _ _ _ _ _ _)

pub returns : goal.returns
returns c =
    rw (
      c.uses_after-uses.ensures,
      c.searched-s.ensures,
      c.uses_of-from.ensures,
      c.landings-at.ensures,
      c.near_of-near.ensures,
    )
    (made_by_cache _ _ _ _ _ _)
