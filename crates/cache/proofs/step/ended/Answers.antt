-- `step::ended` meets its contract: its parts are the definition's.
use Rattle.cache.proofs.EndingLaws.{ended-parts}
use Rattle.cache.proofs.step.ended.Goals as goal

pub returns : goal.returns
returns c =
    let args = c.args in
    rw (c.ended_loads-loads.ensures, c.withdrawn-pending.ensures, c.ended_ring-missing.ensures, c.ended_pages-pages.ensures, c.passes-ok.ensures)
    (ended-parts args.c args.arena.now args.l args.size)
