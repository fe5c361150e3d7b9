-- Clock and ages put into accepted words: the words are accepted again and are those of the engine with that clock and those ages (`used_accepted`, `used_engine`); put anew they are put once
-- (`uses_again`). So a run that is the most recently used is put by two words, or by one where it has no age (`run_used`, `run_past`), and the tiles gone through one after another (`tiles_start`,
-- `tiles_more`). The idea: accepted words are those of their engine, and its pages with other ages and another clock are read back.
use Rattle.std.proofs.Common.{◌≡◌, ℕ, ◌+◌, ◌<◌, ◌≤◌, true, List, [], ◌∷◌, length, get_or, set, sym, refl, ap, ◌∙◌, arith}
use lib.Seq.{set_out}
use Rattle.cache.specs.Lookups.{after}
use Rattle.cache.specs.Uses.{uses_of, used_at}
use Rattle.cache.specs.declared.Aging.{Aging}
use Rattle.cache.specs.declared.Pages.{Pages}
use Rattle.matcher.specs.Gather.{landed_at, used_by, uses_after}
use Rattle.matcher.specs.declared.Landings.{Landings}
use Rattle.matcher.proofs.GatherLaws.{uses_start, uses_turn, uses_size}
use Rattle.engine.specs.declared.Engine.{Engine}
use Rattle.words.specs.Put.{put, uses_in}
use Rattle.words.specs.Words.{pages_of, cache_of, shared_of, engine_of, words, accepted}
use Rattle.words.proofs.BackLaws.{PagesBack}
use Rattle.words.proofs.LookLaws.{sized, engine_sized}
use Rattle.words.proofs.PageSetLaws.{age_put, pages_again, accepted_again, engine_own, own_pages}
use Rattle.words.proofs.SetLaws.{aged, clocked, clock_put}
use Rattle.words.proofs.WordsLaws.{words_engine}
use Rattle.words.proofs.WorkLaws.{cache_in, aged_by, uses_words}

clock_in : (ws : List ℕ) → get_or ws 400 0 ≡ (cache_of ws 15).pages.clock
unfolding cache_of pages_of
clock_in ws = refl

module _ (ws : List ℕ) (h : accepted ws ≡ true) where
  abbrev here : Engine
  here = engine_of ws

  -- clock and ages before
  abbrev from : Aging
  from = uses_of (cache_of ws 15)

  from_size : length from.used ≡ 96
  from_size = (sized ws).used

  -- ---- any clock and ages

  abbrev pages_by : Aging → Pages
  pages_by a = record { slots = here.shared.cache.pages.slots; used = a.used; count = here.shared.cache.pages.count; clock = a.clock }

  module _ (a : Aging) (size : length a.used ≡ 96) where
    back : PagesBack (pages_by a)
    unfolding engine_of shared_of cache_of
    back = let own : PagesBack (pages_of ws 15) = own_pages ws h in record { slots = own.slots; slot = own.slot; used = size; count = own.count }

    pub used_engine : engine_of (uses_in a ws) ≡ aged_by ws h a
    used_engine = ap engine_of (uses_words ws h a) ∙ pages_again here (pages_by a) back (engine_own ws h)

    pub used_accepted : accepted (uses_in a ws) ≡ true
    used_accepted = ap accepted (uses_words ws h a) ∙ accepted_again here (pages_by a) back (engine_own ws h)

    used_read : uses_of (cache_of (uses_in a ws) 15) ≡ a
    used_read = ap uses_of (cache_in (uses_in a ws)) ∙ ap (λ (e : Engine). uses_of e.shared.cache) used_engine

    uses_again : (b : Aging) → uses_in b (uses_in a ws) ≡ uses_in b ws
    uses_again b =
        uses_words (uses_in a ws) used_accepted b
        ∙ ap (λ (e : Engine). words (clocked (aged e b.used) b.clock)) used_engine
        ∙ sym (uses_words ws h b)

  -- ---- one run

  module _ (first age : ℕ) (more : age ≡ after (get_or ws 400 0)) where
    clocks : put 400 (age ∷ []) ws ≡ words (clocked here age)
    clocks = ap (put 400 (age ∷ [])) (sym (words_engine ws h)) ∙ clock_put here age

    -- the age is the clock's, one further
    used_next : used_at from first ≡ record { clock = age; used = set here.shared.cache.pages.used first age }
    used_next = rw (more, clock_in ws, ← cache_in ws)

    pub run_used : first < 96 → put (303 + first) (age ∷ []) (put 400 (age ∷ []) ws) ≡ uses_in (used_at (uses_of (cache_of ws 15)) first) ws
    run_used l =
        ap (put (303 + first) (age ∷ [])) clocks
        ∙ age_put (clocked here age) first l age (engine_sized ws).used
        ∙ sym (uses_words ws h (record { clock = age; used = set here.shared.cache.pages.used first age }))
        ∙ ap (λ (a : Aging). uses_in a ws) (sym used_next)

    pub run_past : 96 ≤ first → put 400 (age ∷ []) ws ≡ uses_in (used_at (uses_of (cache_of ws 15)) first) ws
    run_past l =
        let same : set here.shared.cache.pages.used first age ≡ here.shared.cache.pages.used
        = set_out here.shared.cache.pages.used first age (omega (arith, (engine_sized ws).used, l)) in
        clocks
        ∙ ap (λ (u : List ℕ). words (clocked (aged here u) age)) (sym same)
        ∙ sym (uses_words ws h (record { clock = age; used = set here.shared.cache.pages.used first age }))
        ∙ ap (λ (a : Aging). uses_in a ws) (sym used_next)

  pub uses_own : ws ≡ uses_in (uses_of (cache_of ws 15)) ws
  uses_own =
      sym (words_engine ws h)
      ∙ sym (uses_words ws h (uses_of here.shared.cache))
      ∙ ap (λ (a : Aging). uses_in a ws) (ap uses_of (sym (cache_in ws)))

  -- ---- the tiles gone through

  module _ (at : Landings) where
    pub tiles_size : (i : ℕ) → length (uses_after at (uses_of (cache_of ws 15)) i).used ≡ 96
    tiles_size i = uses_size at from i 96 from_size

    pub tiles_start : ws ≡ uses_in (uses_after at (uses_of (cache_of ws 15)) 0) ws
    tiles_start = uses_own ∙ ap (λ (a : Aging). uses_in a ws) (sym (uses_start at from))

    pub tiles_accepted : (i : ℕ) → accepted (uses_in (uses_after at (uses_of (cache_of ws 15)) i) ws) ≡ true
    tiles_accepted i = used_accepted (uses_after at from i) (tiles_size i)

    pub tiles_engine : (i : ℕ) → engine_of (uses_in (uses_after at (uses_of (cache_of ws 15)) i) ws) ≡ aged_by ws h (uses_after at (uses_of here.shared.cache) i)
    tiles_engine i =
        used_engine (uses_after at from i) (tiles_size i) ∙ ap (λ (a : Aging). aged_by ws h (uses_after at a i)) (ap uses_of (cache_in ws))

    -- one more, over the words so far
    pub tiles_more : (i : ℕ) (us : List ℕ) → us ≡ uses_in (uses_after at (uses_of (cache_of ws 15)) i) ws
        → uses_in (used_by (landed_at at i) (uses_of (cache_of us 15))) us ≡ uses_in (uses_after at (uses_of (cache_of ws 15)) (i + 1)) ws
    tiles_more i us e =
        let a : Aging = uses_after at from i in
        ap (λ (xs : List ℕ). uses_in (used_by (landed_at at i) (uses_of (cache_of xs 15))) xs) e
        ∙ ap (λ (x : Aging). uses_in (used_by (landed_at at i) x) (uses_in a ws)) (used_read a (tiles_size i))
        ∙ uses_again a (tiles_size i) (used_by (landed_at at i) a)
        ∙ ap (λ (x : Aging). uses_in x ws) (sym (uses_turn at from i))
