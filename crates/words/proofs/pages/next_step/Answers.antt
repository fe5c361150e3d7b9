-- `pages::next_step` meets its contract: each return by the ring, the ready run and the load under way.
use Rattle.std.proofs.Common.{sym, ◌∙◌, eq-eqb, ne_eqb}
use Rattle.cache.specs.Lookups.{lands_on, next_step}
use Rattle.words.specs.Words.{cache_of}
use Rattle.words.proofs.PagesLaws.{count_is}
use Rattle.words.proofs.pages.next_step.Goals as goal

pub returns-then-in_ring : goal.returns-then-in_ring
unfolding next_step lands_on cache_of
returns-then-in_ring c = rw (sym c.in_ring.ensures ∙ c.if-in_ring.true)

pub returns-then-ws-eq0 : goal.returns-then-ws-eq0
unfolding next_step lands_on cache_of
returns-then-ws-eq0 c = rw (sym c.in_ring.ensures ∙ c.if-in_ring.false, sym c.ready_at.ensures ∙ c.in-None.is, count_is c.args.ws.now 15, eq-eqb _ _ c.if-ws-eq0.true)

pub returns-in-Some : goal.returns-in-Some
unfolding next_step lands_on cache_of
returns-in-Some c = rw (sym c.in_ring.ensures ∙ c.if-in_ring.false, sym c.ready_at.ensures ∙ c.in-Some.is)

pub returns-else-ws-eq0 : goal.returns-else-ws-eq0
unfolding next_step lands_on cache_of
returns-else-ws-eq0 c = rw (sym c.in_ring.ensures ∙ c.if-in_ring.false, sym c.ready_at.ensures ∙ c.in-None.is, count_is c.args.ws.now 15, ne_eqb _ _ c.if-ws-eq0.false, c.next_read.ensures, c.loading-loading.ensures)
