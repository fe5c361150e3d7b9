-- `pages::load_ok` meets its contract: each return by the load under way.
use Rattle.std.specs.Prelude.{Option}
use Rattle.cache.specs.declared.Loading.{Loading}
use Rattle.std.proofs.Common.{sym, ap, ◌∙◌}
use Rattle.cache.specs.State.{loads_ok}
use Rattle.words.specs.Words.{pages_of, cache_of}
use Rattle.words.proofs.pages.load_ok.Goals as goal

pub returns-in-None : goal.returns-in-None
unfolding cache_of
returns-in-None c = sym (ap (λ (m : Option Loading). loads_ok (pages_of c.args.ws.now 15) m) (sym c.loading-loading.ensures ∙ c.in-None.is))

pub returns-in-Some : goal.returns-in-Some
unfolding cache_of
returns-in-Some c = c.tile_loads.ensures ∙ sym (ap (λ (m : Option Loading). loads_ok (pages_of c.args.ws.now 15) m) (sym c.loading-loading.ensures ∙ c.in-Some.is))
