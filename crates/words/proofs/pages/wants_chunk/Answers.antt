-- `pages::wants_chunk` meets its contract: each return by the load under way and the next step towards its key.
use Rattle.std.specs.Prelude.{Option, Some}
use Rattle.std.proofs.Common.{◌≡◌, sym, ap, ◌∙◌}
use Rattle.cache.specs.declared.Cache.{Cache}
use Rattle.cache.specs.declared.Loading.{Loading}
use Rattle.cache.specs.declared.next.Next.{Next}
use Rattle.cache.specs.Lookups.{next_step}
use Rattle.cache.specs.State.{is_chunk, wants_chunk_of, wants_chunk}
use Rattle.words.specs.Words.{cache_of}
use Rattle.words.proofs.pages.wants_chunk.Goals as goal

by_next : (c : Cache) (l : Loading) {n : Next} → c.loading ≡ Some l → next_step c l.key ≡ n → is_chunk n ≡ wants_chunk c
by_next c l e q = sym (ap (λ (m : Option Loading). wants_chunk_of m c) e ∙ ap is_chunk q)

pub returns-in-None : goal.returns-in-None
unfolding cache_of
returns-in-None c = sym (ap (λ (m : Option Loading). wants_chunk_of m (cache_of c.args.ws.now 15)) (sym c.loading-loading.ensures ∙ c.in-None.is))

pub returns-in-Chunk : goal.returns-in-Chunk
unfolding cache_of
returns-in-Chunk c = by_next (cache_of c.args.ws.now 15) _ (sym c.loading-loading.ensures ∙ c.in-Some.is) (sym c.next_step.ensures ∙ c.in-Chunk.is)

pub returns-in-Entry : goal.returns-in-Entry
unfolding cache_of
returns-in-Entry c = by_next (cache_of c.args.ws.now 15) _ (sym c.loading-loading.ensures ∙ c.in-Some.is) (sym c.next_step.ensures ∙ c.in-Entry.is)

pub returns-in-Ready : goal.returns-in-Ready
unfolding cache_of
returns-in-Ready c = by_next (cache_of c.args.ws.now 15) _ (sym c.loading-loading.ensures ∙ c.in-Some.is) (sym c.next_step.ensures ∙ c.in-Ready.is)

pub returns-in-Missing : goal.returns-in-Missing
unfolding cache_of
returns-in-Missing c = by_next (cache_of c.args.ws.now 15) _ (sym c.loading-loading.ensures ∙ c.in-Some.is) (sym c.next_step.ensures ∙ c.in-Missing.is)

pub returns-in-NoPages : goal.returns-in-NoPages
unfolding cache_of
returns-in-NoPages c = by_next (cache_of c.args.ws.now 15) _ (sym c.loading-loading.ensures ∙ c.in-Some.is) (sym c.next_step.ensures ∙ c.in-NoPages.is)
