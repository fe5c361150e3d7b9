-- Each of the engine's calls leaves an engine within its types, and the arena bytes (`fix_typed`, `lost_typed`, `reset_typed`, `step_typed`, `deliver_typed`, `step_from_typed`). The idea: a key
-- that is needed lies in the grid of a header within its types; a header is read of bytes.
use Rattle.cache.specs.declared.Loading.{Loading}
use Prim.Native.Nat.{ℕ, ◌+◌, ◌<◌}
use mathlib.Core.Path.{◌≡◌, refl}
use mathlib.Core.Bool.{Bool, true, false, ◌&&◌, cond}
use mathlib.Core.List.{List, []}
use native.Mathlib.Omega.{arith}
use borrow.Author.Tests.{ltb-true}
use lib.Dec.{eqb, ltb}
use lib.Ieee.{Float}
use lib.IntN.{pos}
use lib.ListN.{length, set, replicate, length-replicate}
use Rattle.std.specs.Prelude.{Option, Some, None, Result, Ok, Err}
use Rattle.refusal.specs.Refusal.{number_of}
use Rattle.refusal.specs.declared.Refusal.{Refusal}
use Rattle.num.proofs.FoldLaws.{up_keeps}
use Rattle.pack.specs.Bytes.{byte_at, i32_at}
use Rattle.pack.specs.Grid.{is_point, in_grid, key_of, read}
use Rattle.pack.specs.Sector.{header_at, parse}
use Rattle.pack.specs.declared.Header.{Header}
use Rattle.pack.specs.declared.TileKey.{TileKey}
use Rattle.pack.proofs.Laws.{parse_accepted, u16_below, u32_below}
use Rattle.cache.specs.Calls.{load_tested}
use Rattle.cache.specs.Direct.{look, looked}
use Rattle.cache.specs.Keys.{same_key}
use Rattle.cache.specs.State.{fresh}
use Rattle.cache.specs.Loads.{pack_bytes}
use Rattle.cache.specs.declared.Cache.{Cache}
use Rattle.cache.specs.declared.Pending.{Pending}
use Rattle.cache.specs.declared.Progress.{Progress}
use Rattle.matcher.specs.Gather as Gather
use Rattle.matcher.specs.Gather.{Run, run_over, updated}
use Rattle.matcher.specs.declared.Matched.{Matched}
use Rattle.matcher.specs.declared.Outcome as MatchOutcome
use Rattle.matcher.specs.declared.Outcome.TheVariants as Found
use Rattle.matcher.specs.declared.Updated.{Updated}
use Rattle.matcher.specs.declared.gather.Ending.{Ending}
use Rattle.predict.specs.Predict as Predict
use Rattle.predict.specs.Predict.{Forecast, predict_over, predicted_in}
use Rattle.predict.specs.declared.Outcome as RoadOutcome
use Rattle.predict.specs.declared.Outcome.TheVariants as Road
use Rattle.cache.specs.Reader.{plain}
use Rattle.engine.specs.Calls as Calls
use Rattle.engine.specs.Deliver as Deliver
use Rattle.engine.specs.Deliver.{After, with_phase, failing, sector_of, header_failed, header_parsed, header_came, needless, arrived, load_failed, loaded_by, part_came, fits_header, need_came_by, delivered_by, delivered}
use Rattle.engine.specs.Fixes.{place_of}
use Rattle.engine.specs.Follow as Followers
use Rattle.engine.specs.State.{unread, forgotten, engine_ok}
use Rattle.engine.specs.Steps.{opened, awaits_read, pending_for, need_step, ready_by, started_by, started, stepped_by, stepped}
use Rattle.engine.specs.Work.{with_due, counted, match_ended_by, match_step, road_ended_by, with_heights, road_step, road_off, road_due_by, at_fix_by, at_fix, worked_by, worked}
use Rattle.engine.specs.declared.Changed.{Changed}
use Rattle.engine.specs.declared.Engine.{Engine}
use Rattle.engine.specs.declared.Fix.{Fix}
use Rattle.engine.specs.declared.Follower.{Follower}
use Rattle.engine.specs.declared.Phase.{Phase}
use Rattle.engine.specs.declared.Shared.{Shared}
use Rattle.engine.specs.declared.Status.{Status}
use Rattle.engine.specs.declared.Stepped.{Stepped}
use Rattle.engine_states.proofs.KeptParts.{apart, standing_of}
use Rattle.engine_states.proofs.MatcherKept as Matchers
use Rattle.engine_states.proofs.MatcherKept.{look_accepted, PlacedIn, update_needs}
use Rattle.engine_states.proofs.RoadBounds.{RoadIn, predict_in}
use Rattle.words.specs.Typed.{Byte, Word, Signed, Height, Single, TypedKey, TypedMaybe, TypedHeader, TypedPending, TypedCache, TypedMatched, TypedCurrent, TypedMatcher, TypedShared, TypedFollower, Typed}
use Rattle.terrain_lists.specs.Calls.{Bytes}
use Rattle.terrain_lists.proofs.Everywhere.{all_set, all_replicate}
use Rattle.terrain_lists.proofs.Numbers.{signed_read, grid_key}
use Rattle.terrain_lists.proofs.CacheTyped.{TypedAfter, bytes_none, bytes_of_pack, tested_typed, looked_typed, cleared_typed, fresh_typed}
use Rattle.terrain_lists.proofs.MatchTyped.{look_bytes, update_typed}
use Rattle.terrain_lists.proofs.RoadTyped.{Heights, OutcomeTyped, ForecastTyped, forecast_typed}
use Rattle.terrain_lists.proofs.FollowerTyped as Follows
use Rattle.terrain_lists.proofs.FollowerTyped.{follower_fresh, fixed_typed, follower_reset, changed_due, counted_typed, off_map_typed, matched_typed, match_asks_typed, published_typed, road_asks_typed, rematch_typed, heights_typed}
use Rattle.terrain_lists.proofs.Either.{either, either_true}

abbrev Changes : Changed → Type 0
Changes c = Typed c.engine

abbrev Steps : Stepped → Type 0
Steps s = Typed s.engine

-- an engine, and the arena's bytes
pub record Leaves (x : After) : Type 0 where
  pub engine : Typed x.engine
  pub arena : Bytes x.arena

-- ---- a header

header_typed : (s : List ℕ) → Bytes s → TypedHeader (header_at s)
unfolding i32_at
header_typed s b = record {
  south = signed_read _ (u32_below s b _);
  west = signed_read _ (u32_below s b _);
  rows = u16_below s b _;
  cols = u16_below s b _;
}

parsed_typed : (s : List ℕ) → Bytes s → {h : Header} → parse s ≡ Ok h → TypedHeader h
parsed_typed s b {h} e = let same : h ≡ header_at s = (parse_accepted s e).1 in rw same (header_typed s b)

sector_bytes : (bs : List ℕ) → Bytes bs → Bytes (sector_of bs)
unfolding sector_of
sector_bytes bs b =
    up_keeps (λ (out : List ℕ) (i : ℕ). set out i (byte_at bs i)) (replicate 512 0) Bytes 512 (all_replicate Byte 0 512 0 (omega arith) (omega arith))
    (λ (i : ℕ) (below : i < 512) (out : List ℕ) (t : Bytes out). all_set Byte 0 out i (byte_at bs i) t (b i))

-- ---- parts of an engine changed

ended_typed : (e : Engine) (c : Cache) (f : Follower) → Typed e → TypedCache c → TypedFollower f
    → Typed (record { shared = record { phase = e.shared.phase; header = e.shared.header; cache = c }; follower = f })
ended_typed e c f t p q = record { shared = record { header = t.shared.header; cache = p }; follower = q }

failing_typed : (f : Follower) (n : ℕ) → TypedFollower f → Byte n → TypedFollower (failing f n)
failing_typed f n t b = record { sight = t.sight; matcher = t.matcher; due = t.due; ahead = t.ahead; failures = b; horizon = t.horizon }

pending_typed : (c : Cache) (p : Pending) → TypedCache c → TypedPending p → TypedCache (Deliver.with_pending c p)
pending_typed c p t q = record { pages = t.pages; missing = t.missing; loading = t.loading; pending = q }

phase_typed : (s : Shared) (phase : Phase) (h : Header) → TypedShared s → TypedHeader h → TypedShared (with_phase s phase h)
phase_typed s phase h t u = record { header = u; cache = pending_typed s.cache Pending.Nothing t.cache tt }

-- ---- a fix, the loss of fixes, another pack

pub new_typed : (n : ℕ) (horizon : Float) → Word n → Single horizon
    → Typed (record { shared = unread (fresh n); follower = Followers.fresh horizon })
new_typed n horizon w h = record {
  shared = record { header = record { south = omega arith; west = omega arith; rows = omega arith; cols = omega arith }; cache = fresh_typed n w };
  follower = follower_fresh horizon h;
}

module _ (e : Engine) (t : Typed e) (arena : List ℕ) where
  pub fix_typed : (f : Fix) → Signed f.lat → Signed f.lon → Typed (Calls.fix e arena f).engine
  unfolding Calls.fix
  fix_typed f lat lon =
      either Changes (engine_ok e (length arena)) _ _
      (either Changes (is_point f.lat f.lon) _ _ (record { shared = t.shared; follower = fixed_typed e.follower f t.follower lat lon }) t) t

  pub lost_typed : Typed (Calls.lost e arena).engine
  unfolding Calls.lost
  lost_typed = either Changes (engine_ok e (length arena)) _ _ (record { shared = t.shared; follower = Follows.lost_typed e.follower t.follower }) t

  pub reset_typed : Typed (Calls.reset e arena).engine
  unfolding Calls.reset forgotten
  reset_typed =
      either Changes (engine_ok e (length arena)) _ _
      (record {
        shared = record {
          header = record { south = omega arith; west = omega arith; rows = omega arith; cols = omega arith };
          cache = cleared_typed e.shared.cache t.shared.cache;
        };
        follower = follower_reset e.follower t.follower;
      })
      t

-- ---- a tile that is needed

module _ (e : Engine) (t : Typed e) where
  need_done : (f : Follower) → TypedFollower f → TypedFollower (with_due f (needless f.due))
  need_done f u = changed_due f (needless f.due) u (record { need = tt; reloads = u.due.reloads })

  loaded_typed : (x : Result Progress Refusal) (c : Cache) → TypedCache c → Steps (loaded_by x e c)
  unfolding arrived load_failed
  loaded_typed (Ok Progress.Done) c u =
      ended_typed e c _ t u (failing_typed _ 0 (need_done (counted e.follower) (counted_typed e.follower t.follower)) (omega arith))
  loaded_typed (Ok Progress.More) c u = ended_typed e c _ t u (counted_typed e.follower t.follower)
  loaded_typed (Ok (Progress.Failed number)) c u =
      let f : TypedFollower (counted e.follower) = counted_typed e.follower t.follower in
      either_true Steps (ltb e.follower.failures 7) _ _
      (λ (h : ltb e.follower.failures 7 ≡ true). ended_typed e c _ t u (failing_typed _ (e.follower.failures + 1) f (omega (arith, ltb-true e.follower.failures 7 h))))
      (record { shared = record { header = t.shared.header; cache = u }; follower = failing_typed _ 8 f (omega arith) })
  loaded_typed (Err number) c u = t

  part_typed : (arena : List ℕ) → Bytes arena → (key : TileKey) → TypedKey key → (failure : ℕ) (bs : List ℕ) → Bytes bs → Leaves (part_came e arena key failure bs)
  unfolding part_came
  part_typed arena a key k failure bs b =
      let x = load_tested e.shared.cache arena e.shared.header key failure bs in
      let u : TypedAfter x = tested_typed key k e.shared.cache t.shared.cache arena a e.shared.header failure bs b in
      record { engine = loaded_typed x.answer x.cache u.cache; arena = u.arena }

  -- ---- a delivery

  failed_typed : (failure : ℕ) → Steps (header_failed e failure)
  unfolding header_failed
  failed_typed failure =
      by (eqb failure 1) (ltb e.follower.failures 7) refl
    where
      by : (p q : Bool) → ltb e.follower.failures 7 ≡ q
          → Steps (cond (p && q)
          (Deliver.with_failures e (with_phase e.shared Phase.Unread e.shared.header) (e.follower.failures + 1) (Ok Status.Working))
          (Deliver.with_failures e (with_phase e.shared Phase.Failed e.shared.header) e.follower.failures (Ok Status.NoPack)))
      by true true h = record {
        shared = phase_typed e.shared Phase.Unread e.shared.header t.shared t.shared.header;
        follower = failing_typed e.follower _ t.follower (omega (arith, ltb-true e.follower.failures 7 h));
      }
      by true false h = record {
        shared = phase_typed e.shared Phase.Failed e.shared.header t.shared t.shared.header;
        follower = failing_typed e.follower _ t.follower t.follower.failures;
      }
      by false q h = record {
        shared = phase_typed e.shared Phase.Failed e.shared.header t.shared t.shared.header;
        follower = failing_typed e.follower _ t.follower t.follower.failures;
      }

  by_answer : (x : Result Header Refusal) → ((h : Header) → x ≡ Ok h → TypedHeader h) → Steps (header_parsed x e)
  by_answer (Ok h) u = record {
    shared = phase_typed e.shared Phase.Ready h t.shared (u h refl);
    follower = failing_typed e.follower 0 t.follower (omega arith);
  }
  by_answer (Err refusal) u = failed_typed (number_of refusal)

  came_typed : (failure : ℕ) (bs : List ℕ) → Bytes bs → Steps (header_came e failure bs)
  unfolding header_came
  came_typed failure bs b =
      either Steps (eqb failure 0) _ _ (by_answer (parse (sector_of bs)) (λ h q. parsed_typed (sector_of bs) (sector_bytes bs b) q)) (failed_typed failure)

  module _ (arena : List ℕ) (a : Bytes arena) (failure : ℕ) (bs : List ℕ) (b : Bytes bs) where
    need_typed : (x : Option TileKey) → TypedMaybe x → Leaves (need_came_by x e arena failure bs)
    need_typed None k = record { engine = t; arena = a }
    need_typed (Some key) k = part_typed arena a key k failure bs b

    open_typed : (x : Pending) → Leaves (delivered_by x e arena failure bs)
    open_typed Pending.Nothing = record { engine = t; arena = a }
    open_typed Pending.Header =
        either Leaves (fits_header failure (length bs)) _ _ (record { engine = came_typed failure bs b; arena = a }) (record { engine = t; arena = a })
    open_typed (Pending.Entry key) = need_typed e.follower.due.need t.follower.due.need
    open_typed Pending.Chunk = need_typed e.follower.due.need t.follower.due.need

    pub deliver_typed : Leaves (Calls.deliver e arena failure bs)
    unfolding Calls.deliver delivered
    deliver_typed = either Leaves (engine_ok e (length arena)) _ _ (open_typed e.shared.cache.pending) (record { engine = t; arena = a })

-- ---- a match and a road

-- what lookups leave
module _ (c : Cache) (t : TypedCache c) (arena : List ℕ) (size : ℕ) (keys : List TileKey) where
  pub after_match : (x : Ending) → TypedCache (Gather.cache_after x c (looked c arena size keys))
  after_match Ending.All = looked_typed arena size keys c t
  after_match (Ending.Need key) = looked_typed arena size keys c t
  after_match Ending.Stale = t

  pub after_road : (x : Result RoadOutcome.Outcome Refusal) → TypedCache (Predict.cache_after x c (looked c arena size keys))
  after_road (Ok (Road.Road p)) = looked_typed arena size keys c t
  after_road (Ok (Road.Need key)) = looked_typed arena size keys c t
  after_road (Ok Road.Rematch) = looked_typed arena size keys c t
  after_road (Err number) = either TypedCache (eqb (number_of number) 12) c _ t (looked_typed arena size keys c t)

module _ (e : Engine) (t : Typed e) (arena : List ℕ) (a : Bytes arena) where
  cached : TypedCache e.shared.cache
  cached = t.shared.cache

  module _ (f : Follower) (u : TypedFollower f) where
    match_by : (x : Result MatchOutcome.Outcome Refusal) (fix : Fix) (w : Updated) → Matchers.NeedIn e.shared.header x → TypedCache w.cache → TypedMatcher w.matcher
        → Steps (match_ended_by x e f fix w)
    match_by (Ok (Found.Found m)) fix w need c v = ended_typed e w.cache _ t c (matched_typed f u w.matcher fix v)
    match_by (Ok Found.Nothing) fix w need c v = ended_typed e w.cache _ t c (matched_typed f u w.matcher fix v)
    match_by (Ok (Found.Need key)) fix w need c v =
        ended_typed e w.cache _ t c (match_asks_typed f u w.cache.pages.count key (grid_key e.shared.header key t.shared.header need))
    match_by (Err number) fix w need c v = t

    match_typed : (fix : Fix) → Steps (match_step e arena f fix)
    unfolding match_step updated
    match_typed fix =
        let c : Cache = e.shared.cache in
        let h : Header = e.shared.header in
        let r : Run = run_over (look c arena h.tile) f.matcher h (place_of fix) f.sight.heading in
        let w : Updated = updated f.matcher c arena h (place_of fix) f.sight.heading in
        match_by w.answer fix w (update_needs h (look c arena h.tile) (look_accepted c arena h) f.matcher (place_of fix) f.sight.heading)
        (after_match c cached arena h.tile r.found r.end)
        (update_typed (look c arena h.tile) (look_bytes c arena h.tile a) f.matcher h (place_of fix) f.sight.heading u.matcher)

    road_by : (x : Result RoadOutcome.Outcome Refusal) (fix : Fix) (found : Matched) (p : Predict.After) → TypedMatched found → RoadIn e.shared.header 501 11 x → OutcomeTyped x
        → TypedCache p.predicted.cache → Heights 501 p.samples → Heights 11 p.behind → Steps (road_ended_by x e f fix found p)
    road_by (Ok (Road.Road r)) fix found p m few figures c s b =
        ended_typed e p.predicted.cache _ t c
        (published_typed f u (with_heights f.ahead p.samples p.behind) fix found r (heights_typed f.ahead p.samples p.behind u.ahead s b) m figures few.0 few.1)
    road_by (Ok (Road.Need key)) fix found p m few figures c s b =
        ended_typed e p.predicted.cache _ t c
        (road_asks_typed f u p.predicted.cache.pages.count fix found key m (grid_key e.shared.header key t.shared.header few))
    road_by (Ok Road.Rematch) fix found p m few figures c s b = ended_typed e p.predicted.cache _ t c (rematch_typed f u)
    road_by (Err number) fix found p m few figures c s b =
        either Steps (eqb (number_of number) 10) _ _ (ended_typed e p.predicted.cache _ t c (rematch_typed f u)) t

    zeros : (n : ℕ) → Heights n (replicate n (pos 0))
    zeros n = record { long = length-replicate n (pos 0); all = all_replicate Height (pos 0) n (pos 0) (omega arith) (omega arith) }

    road_typed : (fix : Fix) (found : Matched) → TypedMatched found → in_grid e.shared.header found.tile.key ≡ true → Steps (road_step e arena f fix found)
    unfolding road_step predicted_in
    road_typed fix found m grid =
        let c : Cache = e.shared.cache in
        let h : Header = e.shared.header in
        let p : Predict.After = predicted_in c arena h found f.horizon_m (replicate 501 (pos 0)) (replicate 11 (pos 0)) in
        let x : Forecast (List TileKey) = predict_over (look c arena h.tile) c.pages.count h found f.horizon_m (replicate 501 (pos 0)) (replicate 11 (pos 0)) in
        let v : ForecastTyped 501 11 x =
        forecast_typed (plain (look c arena h.tile)) c.pages.count 501 11 (replicate 501 (pos 0)) (replicate 11 (pos 0)) (zeros 501) (zeros 11) found m.ridden h
        f.horizon_m u.horizon [] in
        road_by x.answer fix found p m
        (predict_in (look c arena h.tile) c.pages.count h found f.horizon_m (replicate 501 (pos 0)) (replicate 11 (pos 0)) grid
        (length-replicate 501 (pos 0)) (length-replicate 11 (pos 0)))
        v.answer (after_road c cached arena h.tile x.carried x.answer) v.samples v.behind

    due_typed : (x : Option Matched) (fix : Fix) → TypedCurrent x → PlacedIn e.shared.header x → Steps (road_due_by x e arena f fix)
    due_typed (Some found) fix m p = road_typed fix found m p.grid
    due_typed None fix m p =
        ended_typed e e.shared.cache _ t cached (changed_due f (road_off f.due) u (record { need = u.due.need; reloads = u.due.reloads }))

    at_typed : (x : Option TileKey) (fix : Fix) → PlacedIn e.shared.header f.matcher.current → Steps (at_fix_by x e arena f fix)
    at_typed (Some key) fix p =
        either Steps f.due.matching _ _ (match_typed fix)
        (either Steps f.due.road _ _ (due_typed f.matcher.current fix u.matcher.current p) (ended_typed e e.shared.cache f t cached u))
    at_typed None fix p = ended_typed e e.shared.cache _ t cached (off_map_typed f u fix)

    work_typed : (x : Option Fix) → PlacedIn e.shared.header f.matcher.current → Steps (worked_by x e arena f)
    unfolding at_fix
    work_typed None p = ended_typed e e.shared.cache f t cached u
    work_typed (Some fix) p = at_typed (key_of e.shared.header fix.lat fix.lon) fix p

  -- ---- the step

  opened_typed : (p : Pending) → TypedPending p → Steps (opened e p)
  opened_typed p q = record { shared = record { header = t.shared.header; cache = pending_typed e.shared.cache p cached q }; follower = t.follower }

  pending_for_lem : (x : Option Loading) (key : TileKey) → TypedKey key → TypedPending (pending_for x key)
  pending_for_lem None key k = k
  pending_for_lem (Some l) key k = either TypedPending (same_key l.key key) Pending.Chunk (Pending.Entry key) tt k

  needed_typed : (key : TileKey) → TypedKey key → Steps (need_step e arena key)
  unfolding need_step
  needed_typed key k =
      let x = load_tested e.shared.cache arena e.shared.header key 0 [] in
      either Steps (awaits_read x.answer) _ _ (opened_typed _ (pending_for_lem e.shared.cache.loading key k))
      (loaded_typed e t x.answer x.cache (tested_typed key k e.shared.cache cached arena a e.shared.header 0 [] bytes_none).cache)

  ready_typed : (x : Option TileKey) → TypedMaybe x → PlacedIn e.shared.header e.follower.matcher.current → Steps (ready_by x e arena)
  unfolding worked
  ready_typed (Some key) k p = needed_typed key k
  ready_typed None k p = work_typed (counted e.follower) (counted_typed e.follower t.follower) e.follower.sight.fix p

  module _ (ok : engine_ok e (length arena) ≡ true) where
    started_typed : (x : Phase) → e.shared.phase ≡ x → Steps (started_by x e arena)
    started_typed Phase.Failed q = t
    started_typed Phase.Unread q = opened_typed Pending.Header tt
    started_typed Phase.Ready q =
        ready_typed e.follower.due.need t.follower.due.need
        (standing_of e.shared e.follower.matcher q (apart e (length arena) ok).holds.matcher).current

    stepped_typed : (x : Pending) → Steps (stepped_by x e arena)
    unfolding started
    stepped_typed Pending.Nothing = started_typed e.shared.phase refl
    stepped_typed Pending.Header = t
    stepped_typed (Pending.Entry key) = t
    stepped_typed Pending.Chunk = t

  pub step_typed : Typed (Calls.step e arena).engine
  unfolding Calls.step stepped
  step_typed =
      either_true Steps (engine_ok e (length arena)) _ _ (λ (ok : engine_ok e (length arena) ≡ true). stepped_typed ok e.shared.cache.pending) t

-- ---- over a lent pack

module _ (arena : List ℕ) (a : Bytes arena) (pack : List ℕ) (b : Bytes pack) where
  answered_typed : (x : Result ℕ Refusal) (e : Engine) → Typed e → (len : ℕ) → Leaves (Calls.answered_by x e arena len pack)
  answered_typed (Ok at) e t len = deliver_typed e t arena a 0 (pack_bytes pack at len) (bytes_of_pack pack at len b)
  answered_typed (Err number) e t len = deliver_typed e t arena a 2 [] bytes_none

  from_typed : (x : Result Status Refusal) (s : Stepped) → Steps s → Leaves (Calls.step_from_by x s arena pack)
  unfolding Calls.answered_from
  from_typed (Ok (Status.Fetch offset len)) s t = answered_typed (read pack offset len) s.engine t len
  from_typed (Ok Status.Idle) s t = record { engine = t; arena = a }
  from_typed (Ok Status.Working) s t = record { engine = t; arena = a }
  from_typed (Ok Status.NoPack) s t = record { engine = t; arena = a }
  from_typed (Ok Status.OffMap) s t = record { engine = t; arena = a }
  from_typed (Err number) s t = record { engine = t; arena = a }

  pub step_from_typed : (e : Engine) → Typed e → Leaves (Calls.step_from e arena pack)
  unfolding Calls.step_from
  step_from_typed e t = from_typed (Calls.step e arena).answer (Calls.step e arena) (step_typed e t arena a)
