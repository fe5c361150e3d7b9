-- `kept::keys` meets its contract. The loop's invariant: so far each is held or one is not.
use Rattle.tile.proofs.Laws.{all_none}
use Rattle.words.proofs.HeldLaws.{below_next}
use Rattle.std.proofs.Common.{sym}
use Rattle.words.proofs.kept.keys.Goals as goal

pub loop-i-init : goal.loop-i-init
loop-i-init c = sym (all_none _)

pub loop-i-preserved : goal.loop-i-preserved
loop-i-preserved c = rw (c.both-ok.ensures, c.place.ensures, c.loop-i.invariant, below_next)
