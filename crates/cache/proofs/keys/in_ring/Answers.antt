-- `cache::keys::in_ring` meets its contract. The loop's invariant: no place passed holds the key.
use Rattle.std.proofs.Common.{sym, ◌∙◌}
use Rattle.cache.specs.Keys.{in_ring}
use Rattle.cache.proofs.SearchLaws.{lowest_hit}
use Rattle.cache.proofs.keys.in_ring.Goals as goal

pub returns-then-holds : goal.returns-then-holds
unfolding in_ring
returns-then-holds c =
    let at_loop = c.loop-i in
    rw (lowest_hit _ at_loop.i 64 c.loop-i-test.true at_loop.invariant (sym c.holds.ensures ∙ c.if-holds.true))
