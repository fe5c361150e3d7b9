-- Every call of demand 3 leaves an engine within its types, over an arena of bytes (`typed_kept`); so does every list of them from a fresh engine (`typed_always`).
use Prim.Native.Nat.{ℕ, ◌≤◌}
use mathlib.Core.Bool.{◌&&◌}
use mathlib.Core.List.{List, [], ◌∷◌}
use native.Mathlib.Omega.{arith}
use lib.Ieee.{Float}
use lib.IntN.{ℤ}
use lib.ListN.{length}
use Rattle.pack.specs.Grid.{in_grid, is_point}
use Rattle.pack.specs.declared.Header.{Header}
use Rattle.geo.specs.declared.Point.{Point}
use Rattle.cache.specs.Direct.{look}
use Rattle.cache.specs.State.{cache_ok}
use Rattle.cache.specs.declared.Cache.{Cache}
use Rattle.cache_lists.specs.Lists as Cached
use Rattle.matcher.specs.Calls as Matching
use Rattle.matcher.specs.Gather.{Run, run_over, updated}
use Rattle.matcher.specs.State as Matchers
use Rattle.matcher.specs.declared.Heading.{Heading}
use Rattle.matcher.specs.declared.Matched.{Matched}
use Rattle.matcher.specs.declared.Matcher.{Matcher}
use Rattle.matcher.specs.declared.Updated.{Updated}
use Rattle.predict.specs.Predict as Predict
use Rattle.predict.specs.Predict.{predict_over, predicted_in}
use Rattle.engine.specs.declared.Engine.{Engine}
use Rattle.words.specs.Typed.{Single, TypedCache, TypedMatcher, Typed}
use Rattle.direct.specs.Lists as Direct
use Rattle.direct.specs.Story.{after}
use Rattle.direct.specs.Lists.{World, Call, exec, start, Along}
use Rattle.terrain_lists.specs.Calls.{Bytes, TypedCached, AllTyped}
use Rattle.terrain_lists.specs.Claims.{TypedWorld, TypedKept, TypedAlways}
use Rattle.terrain_lists.proofs.CacheTyped.{TypedAfter, load_typed, load_from_typed, get_typed, clear_typed}
use Rattle.terrain_lists.proofs.MatchTyped.{look_bytes, update_typed}
use Rattle.terrain_lists.proofs.EngineTyped.{Leaves, new_typed, fix_typed, lost_typed, reset_typed, step_typed, deliver_typed, step_from_typed, after_match, after_road}
use Rattle.terrain_lists.proofs.Either.{either}

-- ---- a direct call leaves the engine with another cache

with_cache_lem : (e : Engine) (c : Cache) → Typed e → TypedCache c → Typed (Direct.with_cache e c)
with_cache_lem e c t u = record { shared = record { header = t.shared.header; cache = u }; follower = t.follower }

-- the cache's calls
record CacheLeaves (w : Cached.World) : Type 0 where
  cache : TypedCache w.cache
  arena : Bytes w.arena

cached_kept : (c : Cached.Call) (w : Cached.World) → TypedCached c → CacheLeaves w → CacheLeaves (Cached.exec c w).world
unfolding Cached.exec
cached_kept Cached.capacity w g t = t
cached_kept Cached.loads w g t = t
cached_kept (Cached.pages h key) w g t = t
cached_kept (Cached.get h key) w g t = record { cache = get_typed w.cache w.arena h key t.cache; arena = t.arena }
cached_kept (Cached.fetch h key) w g t = t
cached_kept (Cached.load h key failure bs) w g t =
    let x : TypedAfter _ = load_typed key g.0 w.cache t.cache w.arena t.arena h failure bs g.1 in record { cache = x.cache; arena = x.arena }
cached_kept (Cached.load_from h key Q) w g t =
    let x : TypedAfter _ = load_from_typed key g.0 w.cache t.cache w.arena t.arena h Q g.1 in record { cache = x.cache; arena = x.arena }
cached_kept Cached.clear w g t = record { cache = clear_typed w.cache w.arena t.cache; arena = t.arena }

-- a match and a road change clock and ages alone
update_cache : (m : Matcher) (c : Cache) (arena : List ℕ) (h : Header) (p : Point) (heading : Heading) → TypedCache c
    → TypedCache (Matching.update m c arena h p heading).cache
unfolding Matching.update updated
update_cache m c arena h p heading t =
    let r : Run = run_over (look c arena h.tile) m h p heading in
    either (λ (u : Updated). TypedCache u.cache) (Matchers.call_ok m c h (length arena)) _ _
    (either (λ (u : Updated). TypedCache u.cache) (is_point p.lat p.lon && Matchers.heading_ok heading) _ _
    (after_match c t arena h.tile r.found r.end) t) t

-- and leaves a matcher within its types
pub update_matcher : (m : Matcher) (c : Cache) (arena : List ℕ) (h : Header) (p : Point) (heading : Heading) → Bytes arena → TypedMatcher m
    → TypedMatcher (Matching.update m c arena h p heading).matcher
unfolding Matching.update updated
update_matcher m c arena h p heading a t =
    either (λ (u : Updated). TypedMatcher u.matcher) (Matchers.call_ok m c h (length arena)) _ _
    (either (λ (u : Updated). TypedMatcher u.matcher) (is_point p.lat p.lon && Matchers.heading_ok heading) _ _
    (update_typed (look c arena h.tile) (look_bytes c arena h.tile a) m h p heading t) t) t

predict_cache : (c : Cache) (arena : List ℕ) (h : Header) (m : Matched) (horizon : Float) (samples behind : List ℤ) → TypedCache c
    → TypedCache (Predict.predict c arena h m horizon samples behind).predicted.cache
unfolding Predict.predict predicted_in
predict_cache c arena h m horizon samples behind t =
    let f = predict_over (look c arena h.tile) c.pages.count h m horizon samples behind in
    either (λ (x : Predict.After). TypedCache x.predicted.cache) (cache_ok c h (length arena)) _ _
    (either (λ (x : Predict.After). TypedCache x.predicted.cache) (in_grid h m.tile.key) _ _
    (after_road c t arena h.tile f.carried f.answer) t) t

-- ---- every call

pub typed_kept : TypedKept
unfolding exec
typed_kept (Direct.fix f) w g t = record { engine = fix_typed w.engine t.engine w.arena f g.0 g.1; arena = t.arena }
typed_kept Direct.lost w g t = record { engine = lost_typed w.engine t.engine w.arena; arena = t.arena }
typed_kept (Direct.reset P) w g t = record { engine = reset_typed w.engine t.engine w.arena; arena = t.arena }
typed_kept Direct.step w g t = record { engine = step_typed w.engine t.engine w.arena t.arena; arena = t.arena }
typed_kept (Direct.deliver failure bs) w g t =
    let x : Leaves _ = deliver_typed w.engine t.engine w.arena t.arena failure bs g in record { engine = x.engine; arena = x.arena }
typed_kept (Direct.step_from Q) w g t =
    let x : Leaves _ = step_from_typed w.arena t.arena Q g w.engine t.engine in record { engine = x.engine; arena = x.arena }
typed_kept (Direct.read r) w g t = t
typed_kept (Direct.on_cache c) w g t =
    let x : CacheLeaves _ = cached_kept c (Direct.cache_of w) g (record { cache = t.engine.shared.cache; arena = t.arena }) in
    record { engine = with_cache_lem w.engine _ t.engine x.cache; arena = x.arena }
typed_kept (Direct.nearby h p) w g t = t
typed_kept (Direct.current m) w g t = t
typed_kept (Direct.update m h p heading) w g t = record {
  engine = with_cache_lem w.engine _ t.engine (update_cache m w.engine.shared.cache w.arena h p heading t.engine.shared.cache);
  arena = t.arena;
}
typed_kept (Direct.predict h m horizon samples behind) w g t = record {
  engine = with_cache_lem w.engine _ t.engine (predict_cache w.engine.shared.cache w.arena h m horizon samples behind t.engine.shared.cache);
  arena = t.arena;
}

-- ---- every list

pub start_typed : (n : ℕ) → n ≤ 96 → (horizon : Float) → Single horizon → (arena : List ℕ) → Bytes arena → TypedWorld (start n horizon arena)
start_typed n few horizon h arena a = record { engine = new_typed n horizon (omega (arith, few)) h; arena = a }

pub along_typed : (cs : List Call) (w : World) → AllTyped cs → TypedWorld w → Along (λ (w : World) (c : Call). TypedWorld w) cs w × TypedWorld (after cs w)
unfolding AllTyped Along after
along_typed [] w g t = (tt, t)
along_typed (c ∷ cs) w g t =
    let next : Along (λ (w : World) (c : Call). TypedWorld w) cs (exec c w).world × TypedWorld (after cs (exec c w).world) =
    along_typed cs (exec c w).world g.1 (typed_kept c w g.0 t) in
    ((t, next.0), next.1)

pub typed_always : TypedAlways
typed_always n few horizon h arena a cs g = along_typed cs (start n horizon arena) g (start_typed n few horizon h arena a)
