-- `look::landed` meets its contract: each return by the ring and the ready run, whose length stands in its page's words.
use Rattle.std.proofs.Common.{sym, ◌∙◌}
use Rattle.cache.specs.Lookups.{lands_on, landed}
use Rattle.words.specs.Words.{cache_of}
use Rattle.words.proofs.LookLaws.{len_at, len_past}
use Rattle.words.proofs.look.landed.Goals as goal

pub returns-then-in_ring : goal.returns-then-in_ring
unfolding landed lands_on cache_of
returns-then-in_ring c = rw (sym c.in_ring.ensures ∙ c.if-in_ring.true)

pub returns-then-i-ge-MAX_PAGES : goal.returns-then-i-ge-MAX_PAGES
unfolding landed lands_on cache_of
returns-then-i-ge-MAX_PAGES c =
    rw (sym c.in_ring.ensures ∙ c.if-in_ring.false, sym c.ready_at.ensures ∙ c.in-Some.is, len_past c.args.ws.now _ c.if-i-ge-MAX_PAGES.true)

pub returns-in-None : goal.returns-in-None
unfolding landed lands_on cache_of
returns-in-None c = rw (sym c.in_ring.ensures ∙ c.if-in_ring.false, sym c.ready_at.ensures ∙ c.in-None.is)

pub returns-else-i-ge-MAX_PAGES : goal.returns-else-i-ge-MAX_PAGES
unfolding landed lands_on cache_of
returns-else-i-ge-MAX_PAGES c =
    rw (sym c.in_ring.ensures ∙ c.if-in_ring.false, sym c.ready_at.ensures ∙ c.in-Some.is, len_at c.args.ws.now _ c.if-i-ge-MAX_PAGES.false)
