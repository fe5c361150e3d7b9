-- `engine::fetch::need_step` meets its contract: each return by whether the cache asks for a read.
use Rattle.std.proofs.Common.{sym, ◌∙◌}
use Rattle.engine.proofs.NeedLaws.{need_reads, need_settles}
use Rattle.engine.proofs.fetch.need_step.Goals as goal

pub returns-then-awaits_read : goal.returns-then-awaits_read
returns-then-awaits_read c =
    let reads = need_reads c.args.e c.args.arena.now c.args.key _ c.settled-l.ensures
    (sym c.awaits_read.ensures ∙ c.if-awaits_read.true) in
    rw (c.opened.ensures, c.pending_for-pending.ensures) reads

pub returns : goal.returns
returns c =
    rw c.loaded.ensures
    (need_settles c.args.e c.args.arena.now c.args.key _ c.settled-l.ensures
    (sym c.awaits_read.ensures ∙ c.if-awaits_read.false))
