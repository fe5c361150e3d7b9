-- The public cores that take the cache's state, as data: what each does to a world, and what is claimed of them. A core is its public call less number
-- 12's test; in every world that a fair list leaves, with the pack's header, it does and answers what the public call does. A lookup of a key outside the
-- grid is 9 as a public call; the core leaves all as it was and hands out no run.
use Rattle.refusal.specs.declared.Refusal.{Refusal}
use Rattle.std.specs.Prelude.{Result, Ok, Err, ℕ, ◌*◌, ◌≤◌, ◌≡◌, true, false, ◌&&◌, List, [], ◌∷◌, Float, ℤ, length}
use Rattle.pack.specs.Grid.{in_grid}
use Rattle.pack.specs.declared.Header.{Header}
use Rattle.pack.specs.declared.TileKey.{TileKey}
use Rattle.geo.specs.declared.Point.{Point}
use Rattle.cache.specs.declared.Cache.{Cache}
use Rattle.cache.specs.Uses as Uses
use Rattle.cache.specs.declared.Aging.{Aging}
use Rattle.cache.specs.declared.Lookup.{Lookup}
use Rattle.cache.specs.Ages as Ages
use Rattle.cache.specs.Calls as CacheCalls
use Rattle.cache.specs.Direct.{Aged}
use Rattle.cache.specs.Lookups as Lookups
use Rattle.cache.specs.State as State
use Rattle.cache_lists.specs.Claims.{Parsed}
use Rattle.cache_lists.specs.Lists as Cached
use Rattle.matcher.specs.Calls as Matching
use Rattle.matcher.specs.State.{counts_ok, key_ok}
use Rattle.matcher.specs.declared.Heading.{Heading}
use Rattle.matcher.specs.declared.Matched.{Matched}
use Rattle.matcher.specs.declared.Matcher.{Matcher}
use Rattle.predict.specs.Predict as Predict
use Rattle.direct.specs.Lists as Calls
use Rattle.direct.specs.Lists.{World, Call, Done, cache_of, exec, start}
use Rattle.direct.specs.Direct.{pack_after}
use Rattle.direct.specs.Claims.{told_of, AllFair}

pub data Core : Type 0 where
  got : TileKey → Core
  loaded : TileKey → ℕ → List ℕ → Core
  settled : TileKey → Core
  cleared : Core
  updated : Matcher → Point → Heading → Core
  predicted : Matched → Float → List ℤ → List ℤ → Core

-- ---- what a core does

-- the cache left with an answer, over the arena as it was
abbrev pub leaves : World → Cache → Cached.Answer → Done
leaves w c answer = Calls.in_cache w (Cached.in_cache (cache_of w) c answer)

abbrev pub does : Header → Core → World → Done
does h (got key) w = let r = Lookups.got w.engine.shared.cache w.arena h.tile key in leaves w r.cache (Cached.found r.answer)
does h (loaded key failure bs) w =
    Calls.in_cache w (Cached.loaded (CacheCalls.load_tested w.engine.shared.cache w.arena h key failure bs))
does h (settled key) w =
    let r = CacheCalls.load_tested w.engine.shared.cache w.arena h key 0 [] in leaves w r.cache (Cached.stepped r.answer)
does h cleared w = leaves w (State.cleared w.engine.shared.cache) (Cached.cleared (Ok tt))
does h (updated m p heading) w =
    let u = Matching.update_tested m w.engine.shared.cache w.arena h p heading in
    Calls.aged w u.cache (Calls.matched u.answer u.matcher)
does h (predicted m reach samples behind) w =
    let x = Predict.predict_tested w.engine.shared.cache w.arena h m reach samples behind in
    Calls.aged w x.predicted.cache (Calls.predicted x.predicted.answer x.samples x.behind)

-- ---- what is claimed

-- a lookup that hands out no run
abbrev pub NoRun : Result Lookup Refusal → Type 0
NoRun (Ok (Lookup.Ready first len)) = ⊥
NoRun (Ok Lookup.Missing) = Unit
NoRun (Ok Lookup.Absent) = Unit
NoRun (Err e) = Unit

pub record Outside (w : World) (h : Header) (key : TileKey) : Type 0 where
  pub cache : (Lookups.got w.engine.shared.cache w.arena h.tile key).cache ≡ w.engine.shared.cache
  pub answer : NoRun (Lookups.got w.engine.shared.cache w.arena h.tile key).answer

-- a matcher that the caller gives may be one that 12 names
abbrev pub Public : World → Header → Core → Type 0
Public w h (got key) = (in_grid h key ≡ true → does h (got key) w ≡ exec (Calls.on_cache (Cached.get h key)) w) × (in_grid h key ≡ false → Outside w h key)
Public w h (loaded key failure bs) = does h (loaded key failure bs) w ≡ exec (Calls.on_cache (Cached.load h key failure bs)) w
Public w h (settled key) = does h (settled key) w ≡ exec (Calls.on_cache (Cached.load h key 0 [])) w
Public w h cleared = does h cleared w ≡ exec (Calls.on_cache Cached.clear) w
Public w h (updated m p heading) =
    (counts_ok m && key_ok m.current h) ≡ true → does h (updated m p heading) w ≡ exec (Calls.update m h p heading) w
Public w h (predicted m reach samples behind) = does h (predicted m reach samples behind) w ≡ exec (Calls.predict h m reach samples behind) w

-- and `ages::aged` and `uses::with_uses`, with whatever they are given, change clock and ages alone
pub record Harmless (P : List ℕ) (w : World) : Type 0 where
  pub cores : (h : Header) → Parsed P h → (k : Core) → Public w h k
  pub aged : (looks : List ℕ) → Aged w.engine.shared.cache (Ages.aged w.engine.shared.cache looks)
  pub uses : (a : Aging) → Aged w.engine.shared.cache (Uses.with_uses w.engine.shared.cache a)

-- in every world of a list, the last one too, with the pack that is read there
unfoldable pub Throughout : (List ℕ → World → Type 0) → List ℕ → List Call → World → Type 0
Throughout Q P [] w = Q P w
Throughout Q P (c ∷ cs) w = Q P w × Throughout Q (pack_after P c (told_of w c)) cs (exec c w).world

abbrev pub AllCores : Type 0
AllCores =
    (n : ℕ) → n ≤ 96 → (horizon : Float) (arena : List ℕ) → n * 8192 ≤ length arena → (P : List ℕ) (cs : List Call) →
    AllFair P cs (start n horizon arena) → Throughout Harmless P cs (start n horizon arena)
