-- `look::ring_in` meets its contract. The loop's invariant: the places passed are taken.
use Rattle.std.proofs.Common.{sym}
use Rattle.cache.proofs.LooksLaws.{ring_none, ring_more}
use Rattle.words.proofs.look.ring_in.Goals as goal

pub loop-i-init : goal.loop-i-init
loop-i-init c = sym (ring_none _ _)

pub loop-i-preserved : goal.loop-i-preserved
loop-i-preserved c = rw (c.place_in.ensures, c.loop-i.invariant, ring_more)
