-- `look::pages_in` meets its contract. The loop's invariant: the pages passed are taken.
use Rattle.std.proofs.Common.{sym}
use Rattle.cache.proofs.LooksLaws.{pages_none, pages_more}
use Rattle.words.proofs.look.pages_in.Goals as goal

pub loop-i-init : goal.loop-i-init
loop-i-init c = sym (pages_none _ _)

pub loop-i-preserved : goal.loop-i-preserved
loop-i-preserved c = rw (c.page_in.ensures, c.loop-i.invariant, pages_more)
