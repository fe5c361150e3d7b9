-- A refused call of a part through C leaves the engine's words, the arena and a matcher's words as they were (`get_keeps`, `clear_keeps`, `load_keeps`, `load_from_keeps`, `update_keeps`,
-- `predict_keeps`; those of the engine's calls are crate terrain's KeepLaws). A road that is refused with 10 has moved clock and ages, as document 01 says. The idea: where words are no engine's it is
-- so by definition; else the library's own refused call leaves the cache, and the words of an engine with its own cache are the engine's words.
use Rattle.std.specs.Prelude.{Result, Ok, Err}
use Rattle.refusal.specs.Refusal.{number_of}
use Rattle.refusal.specs.declared.Refusal.{Refusal}
use Rattle.std.proofs.Common.{Option, Some, None}
use Prim.Native.Nat.{ℕ, ◌+◌}
use mathlib.Core.Path.{◌≡◌, refl, ap, ◌∙◌}
use mathlib.Core.Bool.{Bool, true, false, ◌&&◌, not, cond}
use mathlib.Core.Logic.{◌≢◌}
use mathlib.Core.List.{List, []}
use native.Mathlib.Omega.{arith}
use borrow.Author.Tests.{eq-eqb}
use lib.Dec.{eqb, ltb}
use lib.Ieee.{Float}
use lib.IntN.{ℤ, pos}
use lib.ListN.{length}
use Rattle.pack.specs.Grid.{in_grid, is_point, locate_of, read}
use Rattle.pack.specs.declared.Header.{Header}
use Rattle.pack.specs.declared.TileKey.{TileKey}
use Rattle.geo.specs.declared.Point.{Point}
use Rattle.cache.specs.Begin.{begun}
use Rattle.cache.specs.Calls as Caches
use Rattle.cache.specs.Direct.{Look, ready, missing, absent, stale, look, looked}
use Rattle.cache.specs.Loads.{After, over, done, refused, chunk_len, dropped, began_at, began, located, entry_step, chunk_step, stepped, pack_bytes, takes}
use Rattle.cache.specs.Lookups.{lands_on, passes, len_at, touched, got_ready, got_at, got, next_step}
use Rattle.cache.specs.Reader.{Reader, plain}
use Rattle.cache.specs.State.{lent_ok, cache_ok, cleared}
use Rattle.cache.specs.declared.Cache.{Cache}
use Rattle.cache.specs.declared.Cleared.{Cleared}
use Rattle.cache.specs.declared.Got.{Got}
use Rattle.cache.specs.declared.Loaded.{Loaded}
use Rattle.cache.specs.declared.Lookup.{Lookup}
use Rattle.cache.specs.declared.Pages.{Pages}
use Rattle.cache.specs.declared.Progress.{Progress}
use Rattle.cache.specs.declared.look.Landing.{Landing}
use Rattle.cache.specs.declared.next.Next.{Next}
use Rattle.tile.specs.Layout as Layout
use Rattle.tile.specs.declared.Edge.{Edge}
use Rattle.geo.specs.Flat.{whole}
use Rattle.matcher.specs.Calls as Matching
use Rattle.matcher.specs.Gather as Gather
use Rattle.matcher.specs.Gather.{Run, outcome, matching_by, run_over, update_over, updated}
use Rattle.matcher.specs.Score.{same_id}
use Rattle.matcher.specs.Settle.{matched}
use Rattle.matcher.specs.State as Matchers
use Rattle.matcher.specs.declared.Heading.{Heading}
use Rattle.matcher.specs.declared.Kept.{Kept}
use Rattle.matcher.specs.declared.Matched.{Matched}
use Rattle.matcher.specs.declared.Matcher.{Matcher}
use Rattle.matcher.specs.declared.Outcome as Matching'
use Rattle.matcher.specs.declared.Outcome.TheVariants as Match
use Rattle.matcher.specs.declared.Updated.{Updated}
use Rattle.matcher.specs.declared.gather.Ending.{Ending}
use Rattle.predict.specs.Predict as Predict
use Rattle.predict.specs.Meets.{budget}
use Rattle.predict.specs.Ridden.{no_mark, ridden}
use Rattle.predict.specs.Samples.{Pushed, pushed}
use Rattle.predict.specs.Walk as Walks
use Rattle.predict.specs.Walk.{walk_over}
use Rattle.predict.specs.Predict.{Forecast, track_from, walk_from, outcome_by, road_over, start_look, directed_over, forecast_over, predict_over, predicted_in, trip_of}
use Rattle.predict.specs.Start.{start_ok, place}
use Rattle.predict.specs.declared.Ending as Ends
use Rattle.predict.specs.declared.Ending.TheVariants as Ends'
use Rattle.predict.specs.declared.Outcome as Roads'
use Rattle.predict.specs.declared.Outcome.TheVariants as Road
use Rattle.predict.specs.declared.Trip.{Trip}
use Rattle.predict.specs.declared.Track.{Track}
use Rattle.predict.specs.declared.Walk.{Walk}
use Rattle.predict.specs.declared.ridden.Behind.{Behind}
use Rattle.terrain.specs.Parts as Parts
use Rattle.terrain.specs.Parts.{cache_of, after}
use Rattle.terrain.specs.Roads as Roads
use Rattle.words.specs.Words.{accepted, matcher_of, matcher_words}
use Rattle.terrain.specs.declared.host.MatchTold.{MatchTold}
use Rattle.terrain.specs.declared.roads.TerrainHeading.{TerrainHeading}
use Rattle.terrain.proofs.PartLaws.{after_kept}
use Rattle.words.proofs.SameLaws.{both, same_is}
use Rattle.terrain_lists.proofs.Either.{either}

-- ---- the library's own refused calls

-- a lookup
abbrev GotSame : Cache → Result Lookup Refusal → Cache → Type 0
GotSame c (Err n) d = d ≡ c
GotSame c (Ok (Lookup.Ready first len)) d = Unit
GotSame c (Ok Lookup.Missing) d = Unit
GotSame c (Ok Lookup.Absent) d = Unit

module _ (c : Cache) (arena : List ℕ) where
  abbrev Gets : Got → Type 0
  Gets x = GotSame c x.answer x.cache

  at_same : (x : Landing) (size : ℕ) (key : TileKey) → Gets (got_at x c arena size key)
  at_same Landing.Missing size key = tt
  at_same Landing.Nothing size key = tt
  at_same (Landing.At i) size key = by (passes arena i (len_at c i) key size)
    where
      by : (b : Bool) → Gets (got_ready b c i)
      by true = tt
      by false = refl

  get_same : (h : Header) (key : TileKey) → Gets (Caches.get c arena h key)
  unfolding Caches.get got
  get_same h key =
      either Gets (cache_ok c h (length arena)) _ _ (either Gets (in_grid h key) _ _ (at_same (lands_on c key) h.tile key) refl) refl

  -- a step of a load
  abbrev LoadSame : Result Progress Refusal → After → Type 0
  LoadSame (Err n) x = (x.cache ≡ c) × (x.arena ≡ arena)
  LoadSame (Ok Progress.Done) x = Unit
  LoadSame (Ok Progress.More) x = Unit
  LoadSame (Ok (Progress.Failed n)) x = Unit

  abbrev Loaded' : After → Type 0
  Loaded' x = LoadSame x.answer x

  began_same : (x : Option ℕ) (d : Cache) (g : Pages) (key : TileKey) (offset len : ℕ) → Loaded' (over (began_at x d g key offset len) arena)
  began_same None d g key offset len = tt
  began_same (Some s) d g key offset len = tt

  located_same : (x : Result (Option (ℕ × ℕ)) Refusal) (d : Cache) (key : TileKey) → Loaded' (over (located x d key) arena)
  unfolding began
  located_same (Ok None) d key = tt
  located_same (Err n) d key = tt
  located_same (Ok (Some (offset, len))) d key =
      either (λ (x : Loaded). Loaded' (over x arena)) (ltb 49152 len) _ _ tt (began_same (begun d.pages key len).at d (begun d.pages key len).pages key offset len)

  step_same : (n : Next) (h : Header) (key : TileKey) (failure : ℕ) (bs : List ℕ) → Loaded' (stepped c n arena h key failure bs)
  unfolding entry_step chunk_step
  step_same (Next.Ready i) h key failure bs =
      either (λ (x : Loaded). Loaded' (over x arena)) (passes arena i (len_at c i) key h.tile) (done (touched c i)) (refused c Refusal.BadState) tt (refl, refl)
  step_same Next.Missing h key failure bs = tt
  step_same Next.NoPages h key failure bs = tt
  step_same Next.Entry h key failure bs =
      either (λ (x : Loaded). Loaded' (over x arena)) (eqb failure 0) _ _ (located_same (locate_of h bs) (dropped c) key) tt
  step_same (Next.Chunk l) h key failure bs =
      either Loaded' (eqb failure 0) _ _ (either Loaded' (ltb (l.done + chunk_len l) l.len) _ _ tt tt) tt

  load_same : (h : Header) (key : TileKey) (failure : ℕ) (bs : List ℕ) → Loaded' (Caches.load c arena h key failure bs)
  unfolding Caches.load
  load_same h key failure bs =
      either Loaded' (cache_ok c h (length arena)) _ _
      (either Loaded' (takes (next_step c key) h key failure (length bs)) _ _
      (either Loaded' (in_grid h key) _ _ (step_same (next_step c key) h key failure bs) (refl, refl)) (refl, refl))
      (refl, refl)

  range_same : (r : Result ℕ Refusal) (h : Header) (key : TileKey) (n : ℕ) (pack : List ℕ) → Loaded' (Caches.load_by r c arena h key n pack)
  range_same (Ok offset) h key n pack = load_same h key 0 (pack_bytes pack offset n)
  range_same (Err number) h key n pack = load_same h key 2 []

  request_same : (r : Result (Option (ℕ × ℕ)) Refusal) (h : Header) (key : TileKey) (pack : List ℕ) → Loaded' (Caches.request_load r c arena h key pack)
  request_same (Ok None) h key pack = load_same h key 0 []
  request_same (Err number) h key pack = (refl, refl)
  request_same (Ok (Some (offset, n))) h key pack = range_same (read pack offset n) h key n pack

  load_from_same : (h : Header) (key : TileKey) (pack : List ℕ) → Loaded' (Caches.load_from c arena h key pack)
  unfolding Caches.load_from
  load_from_same h key pack = request_same (Caches.fetch c arena h key) h key pack

-- a match
abbrev MatchSame : Matcher → Cache → Result Matching'.Outcome Refusal → Matcher → Cache → Type 0
MatchSame m c (Err n) w d = (w ≡ m) × (d ≡ c)
MatchSame m c (Ok (Match.Found f)) w d = Unit
MatchSame m c (Ok Match.Nothing) w d = Unit
MatchSame m c (Ok (Match.Need key)) w d = Unit

module _ (m : Matcher) (c : Cache) where
  abbrev Matches : Updated → Type 0
  Matches u = MatchSame m c u.answer u.matcher u.cache

  outcome_same : (x : Option Matched) (w : Matcher) (d : Cache) → MatchSame m c (outcome x) w d
  outcome_same None w d = tt
  outcome_same (Some f) w d = tt

  ending_same : (x : Ending) (k : Kept) (heading : Heading) (d : Cache)
      → MatchSame m c (matching_by x k m heading).answer (matching_by x k m heading).matcher (Gather.cache_after x c d)
  ending_same Ending.All k heading d = outcome_same (matched m k heading).current (matched m k heading) d
  ending_same (Ending.Need key) k heading d = tt
  ending_same Ending.Stale k heading d = (refl, refl)

  update_same : (arena : List ℕ) (h : Header) (p : Point) (heading : Heading) → Matches (Matching.update m c arena h p heading)
  unfolding Matching.update updated update_over
  update_same arena h p heading =
      let r : Run = run_over (look c arena h.tile) m h p heading in
      either Matches (Matchers.call_ok m c h (length arena)) _ _
      (either Matches (is_point p.lat p.lon && Matchers.heading_ok heading) _ _
      (ending_same r.end r.kept heading (looked c arena h.tile r.found)) (refl, refl))
      (refl, refl)

-- a road is refused with 10 or late with 12
abbrev LateOnly : Result Roads'.Outcome Refusal → Type 0
LateOnly (Err e) = (number_of e ≡ 10 → ⊥) → number_of e ≡ 12
LateOnly (Ok (Road.Road p)) = Unit
LateOnly (Ok (Road.Need key)) = Unit
LateOnly (Ok Road.Rematch) = Unit

ended_late : (x : Ends.Ending) (w : Walk) (t : Track) (b : Behind) → LateOnly (outcome_by x w t b)
ended_late Ends'.Going w t b = tt
ended_late (Ends'.Stops end) w t b = tt
ended_late (Ends'.Need key) w t b = tt
ended_late Ends'.Stale w t b = λ h. refl

module _ {S : Type 0} (rd : Reader S) (n : ℕ) (samples behind : List ℤ) (m : Matched) where
  abbrev Late : Forecast S → Type 0
  Late f = LateOnly f.answer

  road_late : (trip : Trip) (forward : Bool) (s : S) (bs : List ℕ) → Late (road_over rd n trip m forward s bs samples behind)
  unfolding road_over
  road_late trip forward s bs =
      let e : Edge = Layout.edge_of bs m.edge in
      let here : Point = place trip.header bs e m in
      let p : Pushed = pushed no_mark samples (whole 0) (pos 0) in
      let r : Walks.Run S = walk_over rd trip (budget n) (walk_from m (Predict.leg_of trip.header m e forward)) (track_from here p.mark) s p.heights in
      ended_late r.walk.ending r.walk r.track (ridden trip (Predict.leg_of trip.header m e (not forward)) bs (Layout.head_of bs).lon_um m here behind).behind

  start_late : (l : Look) (h : Header) (forward : Bool) (horizon : Float) (s : S) → Late (start_look rd n l h m forward horizon s samples behind)
  start_late (ready bs) h forward horizon s =
      either Late (same_id (Layout.id_of bs) m.tile) _ _
      (either Late (start_ok bs m) _ _ (road_late (trip_of h m horizon) forward _ bs) (λ no10. absurd (no10 refl))) tt
  start_late missing h forward horizon s = tt
  start_late absent h forward horizon s = tt
  start_late stale h forward horizon s = λ no10. refl

  directed_late : (forward : Option Bool) (h : Header) (horizon : Float) (s : S) → Late (directed_over rd n forward h m horizon s samples behind)
  directed_late None h horizon s = tt
  directed_late (Some forward) h horizon s = start_late (rd.at s m.tile.key) h forward horizon s

  forecast_late : (h : Header) (horizon : Float) (s : S) → Late (forecast_over rd n h m horizon s samples behind)
  unfolding forecast_over
  forecast_late h horizon s = directed_late m.forward h horizon s

abbrev RoadSame : Cache → Result Roads'.Outcome Refusal → Cache → Type 0
RoadSame c (Err e) d = (number_of e ≡ 10 → ⊥) → d ≡ c
RoadSame c (Ok (Road.Road p)) d = Unit
RoadSame c (Ok (Road.Need key)) d = Unit
RoadSame c (Ok Road.Rematch) d = Unit

module _ (c : Cache) where
  abbrev Predicts : Predict.After → Type 0
  Predicts x = RoadSame c x.predicted.answer x.predicted.cache

  late_same : (x : Result Roads'.Outcome Refusal) (d : Cache) → LateOnly x → RoadSame c x (Predict.cache_after x c d)
  late_same (Ok (Road.Road p)) d l = tt
  late_same (Ok (Road.Need key)) d l = tt
  late_same (Ok Road.Rematch) d l = tt
  late_same (Err e) d l = λ no10. rw (eq-eqb (number_of e) 12 (l no10))

  predict_same : (arena : List ℕ) (h : Header) (m : Matched) (horizon : Float) (samples behind : List ℤ) → Predicts (Predict.predict c arena h m horizon samples behind)
  unfolding Predict.predict predicted_in
  predict_same arena h m horizon samples behind =
      let f : Forecast (List TileKey) = predict_over (look c arena h.tile) c.pages.count h m horizon samples behind in
      either Predicts (cache_ok c h (length arena)) _ _
      (either Predicts (in_grid h m.tile.key) _ _
      (late_same f.answer (looked c arena h.tile f.carried) (forecast_late (plain (look c arena h.tile)) c.pages.count samples behind m h horizon []))
      (λ no10. refl))
      (λ no10. refl)

-- ---- through C

got_told : (x : Result Lookup Refusal) (c d : Cache) → (Parts.lookup_out x).lookup ≡ 3 → GotSame c x d → d ≡ c
got_told (Err n) c d e same = same
got_told (Ok (Lookup.Ready first len)) c d e same = absurd (omega (arith, e))
got_told (Ok Lookup.Missing) c d e same = absurd (omega (arith, e))
got_told (Ok Lookup.Absent) c d e same = absurd (omega (arith, e))

load_told : (x : Result Progress Refusal) (c : Cache) (arena : List ℕ) (r : After) → (Parts.progress_out x).progress ≡ 3 → LoadSame c arena x r → (r.cache ≡ c) × (r.arena ≡ arena)
load_told (Err n) c arena r e same = same
load_told (Ok Progress.Done) c arena r e same = absurd (omega (arith, e))
load_told (Ok Progress.More) c arena r e same = absurd (omega (arith, e))
load_told (Ok (Progress.Failed n)) c arena r e same = absurd (omega (arith, e))

match_told : (x : Result Matching'.Outcome Refusal) (m w : Matcher) (c d : Cache) → (Roads.updated_out x).outcome ≡ 3 → MatchSame m c x w d → (w ≡ m) × (d ≡ c)
match_told (Err n) m w c d e same = same
match_told (Ok (Match.Found f)) m w c d e same = absurd (omega (arith, e))
match_told (Ok Match.Nothing) m w c d e same = absurd (omega (arith, e))
match_told (Ok (Match.Need key)) m w c d e same = absurd (omega (arith, e))

road_told : (x : Result Roads'.Outcome Refusal) (c d : Cache) → (Roads.predicted_out x).outcome ≡ 3 → (Roads.predicted_out x).number ≢ 10 → RoadSame c x d → d ≡ c
road_told (Err n) c d e no10 same = same no10
road_told (Ok (Road.Road p)) c d e no10 same = absurd (omega (arith, e))
road_told (Ok (Road.Need key)) c d e no10 same = absurd (omega (arith, e))
road_told (Ok Road.Rematch) c d e no10 same = absurd (omega (arith, e))

module _ (ws : List ℕ) (arena : List ℕ) where
  -- words with their own cache are the words
  back : (c : Cache) → c ≡ cache_of ws → after ws c ≡ ws
  back c e = ap (after ws) e ∙ after_kept ws

  pub get_keeps : (h : Header) (key : TileKey) → (Parts.lookup_out (Parts.get ws arena h key).answer).lookup ≡ 3 → after ws (Parts.get ws arena h key).cache ≡ ws
  get_keeps h key e = back _ (got_told (Parts.get ws arena h key).answer (cache_of ws) _ e (by (accepted ws)))
    where
      by : (b : Bool) → Gets (cache_of ws) arena (cond b (Caches.get (cache_of ws) arena h key) (Caches.got_nothing (cache_of ws) Refusal.BadState))
      by true = get_same (cache_of ws) arena h key
      by false = refl

  pub clear_keeps : Parts.clearing_out (Parts.clear ws arena).answer ≢ 0 → after ws (Parts.clear ws arena).cache ≡ ws
  unfolding Caches.clear
  clear_keeps n = back _ (by (accepted ws) (lent_ok (cache_of ws) (length arena)) n)
    where
      none : Cleared
      none = record { answer = Err Refusal.BadState; cache = cache_of ws }

      emptied : Cleared
      emptied = record { answer = Ok tt; cache = cleared (cache_of ws) }

      by : (b p : Bool) → Parts.clearing_out (cond b (cond p emptied none) none).answer ≢ 0 → (cond b (cond p emptied none) none).cache ≡ cache_of ws
      by true true n = absurd (n refl)
      by true false n = refl
      by false p n = refl

  pub load_keeps : (h : Header) (key : TileKey) (failure : ℕ) (bs : List ℕ) → (Parts.progress_out (Parts.load ws arena h key failure bs).answer).progress ≡ 3
      → (after ws (Parts.load ws arena h key failure bs).cache ≡ ws) × ((Parts.load ws arena h key failure bs).arena ≡ arena)
  load_keeps h key failure bs e =
      let x : After = Parts.load ws arena h key failure bs in
      let same : (x.cache ≡ cache_of ws) × (x.arena ≡ arena) = load_told x.answer (cache_of ws) arena x e (by (accepted ws)) in
      (back _ same.0, same.1)
    where
      by : (b : Bool) → Loaded' (cache_of ws) arena (cond b (Caches.load (cache_of ws) arena h key failure bs) (Parts.refused_load ws arena))
      by true = load_same (cache_of ws) arena h key failure bs
      by false = (refl, refl)

  pub load_from_keeps : (h : Header) (key : TileKey) (Q : List ℕ) → (Parts.progress_out (Parts.load_from ws arena h key Q).answer).progress ≡ 3
      → (after ws (Parts.load_from ws arena h key Q).cache ≡ ws) × ((Parts.load_from ws arena h key Q).arena ≡ arena)
  load_from_keeps h key Q e =
      let x : After = Parts.load_from ws arena h key Q in
      let same : (x.cache ≡ cache_of ws) × (x.arena ≡ arena) = load_told x.answer (cache_of ws) arena x e (by (accepted ws)) in
      (back _ same.0, same.1)
    where
      by : (b : Bool) → Loaded' (cache_of ws) arena (cond b (Caches.load_from (cache_of ws) arena h key Q) (Parts.refused_load ws arena))
      by true = load_from_same (cache_of ws) arena h key Q
      by false = (refl, refl)

  -- the engine's words, and the matcher's
  pub update_keeps : (ms : List ℕ) (h : Header) (p : Point) (heading : TerrainHeading) → (Roads.updated_out (Roads.update ms ws arena h p heading).answer).outcome ≡ 3
      → (Roads.engine_after ms ws arena h p heading ≡ ws) × (Roads.matcher_after ms ws arena h p heading ≡ ms)
  unfolding Roads.is_matcher
  update_keeps ms h p heading e = by (Roads.can_match ms ws heading) refl e
    where
      m : Matcher
      m = matcher_of ms 0

      u : Bool → Updated
      u b = cond b (Matching.update m (cache_of ws) arena h p (Roads.heading_of heading)) (Matchers.refused m (cache_of ws) Refusal.BadState)

      by : (b : Bool) → Roads.can_match ms ws heading ≡ b → (Roads.updated_out (u b).answer).outcome ≡ 3
          → (cond b (after ws (u b).cache) ws ≡ ws) × (cond b (matcher_words (u b).matcher) ms ≡ ms)
      by true q e =
          let same : ((u true).matcher ≡ m) × ((u true).cache ≡ cache_of ws) =
          match_told (u true).answer m (u true).matcher (cache_of ws) (u true).cache e (update_same m (cache_of ws) arena h p (Roads.heading_of heading)) in
          (back _ same.1, ap matcher_words same.0 ∙ same_is (matcher_words m) ms (both (Roads.is_matcher ms) _ q).0)
      by false q e = (refl, refl)

  -- 10 has moved clock and ages
  pub predict_keeps : (h : Header) (start : MatchTold) (horizon : Float) (samples behind : List ℤ)
      → (Roads.predicted_out (Roads.predict ws arena h start horizon samples behind).predicted.answer).outcome ≡ 3
      → (Roads.predicted_out (Roads.predict ws arena h start horizon samples behind).predicted.answer).number ≢ 10
      → Roads.predict_after ws arena h start horizon samples behind ≡ ws
  predict_keeps h start horizon samples behind e no10 = by (Roads.is_given start && accepted ws) e no10
    where
      x : Bool → Predict.After
      x b =
          cond b (Predict.predict (cache_of ws) arena h (Roads.given start) horizon samples behind)
          (record { predicted = record { answer = Err Refusal.BadState; cache = cache_of ws }; samples = samples; behind = behind })

      by : (b : Bool) → (Roads.predicted_out (x b).predicted.answer).outcome ≡ 3 → (Roads.predicted_out (x b).predicted.answer).number ≢ 10
          → cond b (after ws (x b).predicted.cache) ws ≡ ws
      by true e no10 =
          back _ (road_told (x true).predicted.answer (cache_of ws) (x true).predicted.cache e no10 (predict_same (cache_of ws) arena h (Roads.given start) horizon samples behind))
      by false e no10 = refl
