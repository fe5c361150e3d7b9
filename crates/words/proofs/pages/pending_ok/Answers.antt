-- `pages::pending_ok` meets its contract: each return by the open fetch.
use Rattle.std.proofs.Common.{◌≡◌, sym, ap, ◌∙◌}
use Rattle.cache.specs.declared.Cache.{Cache}
use Rattle.cache.specs.declared.Pending.{Pending}
use Rattle.cache.specs.State.{pending_fits, pending_ok}
use Rattle.words.specs.Words.{cache_of}
use Rattle.words.proofs.pages.pending_ok.Goals as goal

by_fetch : (c : Cache) {p : Pending} → c.pending ≡ p → pending_fits p c ≡ pending_ok c
by_fetch c e = ap (λ (p : Pending). pending_fits p c) (sym e)

pub returns-in-Nothing : goal.returns-in-Nothing
unfolding cache_of
returns-in-Nothing c = by_fetch (cache_of c.args.ws.now 15) (sym c.pending-pending.ensures ∙ c.in-Nothing.is)

pub returns-in-Header : goal.returns-in-Header
unfolding cache_of
returns-in-Header c = by_fetch (cache_of c.args.ws.now 15) (sym c.pending-pending.ensures ∙ c.in-Header.is)

pub returns-in-Entry : goal.returns-in-Entry
unfolding cache_of
returns-in-Entry c = c.wants_entry.ensures ∙ by_fetch (cache_of c.args.ws.now 15) (sym c.pending-pending.ensures ∙ c.in-Entry.is)

pub returns-in-Chunk : goal.returns-in-Chunk
unfolding cache_of
returns-in-Chunk c = c.wants_chunk.ensures ∙ by_fetch (cache_of c.args.ws.now 15) (sym c.pending-pending.ensures ∙ c.in-Chunk.is)
