-- `cache::ages::in_ring` meets its contract. The loop's invariant: no place passed holds the key.
use Rattle.cache.specs.Ages.{in_ring}
use Rattle.cache.proofs.SearchLaws.{lowest_hit}
use Rattle.cache.proofs.LooksLaws.{both}
use Rattle.cache.proofs.ages.in_ring.Goals as goal

pub returns-then-looks-i-2 : goal.returns-then-looks-i-2
unfolding in_ring
returns-then-looks-i-2 c =
    let at_loop = c.loop-i in
    rw (lowest_hit _ at_loop.i 64 c.loop-i-test.true at_loop.invariant (both _ _ _ _ c.if-looks-i.true c.if-looks-i-2.true))
