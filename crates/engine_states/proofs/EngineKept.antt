-- No public call makes a state that number 12 names out of one that it doesn't: a fix and the loss of fixes (`fix_kept`, `lost_kept`), another
-- pack (`reset_kept`), a step (`step_kept`, by `off_map_kept`, `idle_kept`, `match_kept`, `road_kept`), a delivery (`deliver_kept`, of a cache
-- with its 96 slots). What is needed of the cache's own state is a parameter of each module. The idea: each cause of 12 is looked at by itself
-- (`EngineOk`), and a call changes few of the parts that it speaks of. What a change does to one follower is said of that follower alone (`Holds`).
use Prim.Native.Nat.{ℕ, ◌+◌}
use mathlib.Core.Path.{◌≡◌, refl, sym, ap, subst, ◌∙◌}
use mathlib.Core.Bool.{Bool, true, false, ◌&&◌, cond, true≢false}
use mathlib.Core.List.{List, [], ◌∷◌}
use native.Mathlib.Omega.{arith}
use lib.Dec.{eqb, ltb, leb}
use lib.IntN.{ℤ, pos}
use lib.ListN.{length, replicate, length-replicate}
use borrow.Author.Tests.{ltb-true, eqb-true, lt-ltb, le-leb, eq-eqb}
use Rattle.std.specs.Prelude.{Ok, Option, Some, None, Result, Err}
use Rattle.refusal.specs.Refusal.{number_of}
use Rattle.refusal.specs.declared.Refusal.{Refusal}
use Rattle.pack.specs.Grid.{in_grid, is_point, key_of, locate_of}
use Rattle.pack.specs.Sector.{rules, parse}
use Rattle.pack.specs.declared.Header.{Header}
use Rattle.pack.specs.declared.TileKey.{TileKey}
use Rattle.pack.proofs.Laws.{and_left, and_right, clause, parse_accepted}
use Rattle.cache.specs.Begin.{begun}
use Rattle.cache.specs.declared.Pages.{Pages}
use Rattle.cache.specs.Direct.{look, looked, Aged}
use Rattle.cache.specs.Keys.{same_key}
use Rattle.cache.specs.Lookups.{lands_on, passes, len_at, touched, next_read, next_at, next_step}
use Rattle.cache.specs.Search.{lowest}
use Rattle.cache.specs.State.{state_ok, arena_ok, cleared, is_entry, is_chunk, runs_ok, ring_ok, load_ok, wants_chunk_of, pending_fits}
use Rattle.cache.specs.declared.Cache.{Cache}
use Rattle.cache.specs.declared.Loading.{Loading}
use Rattle.cache.specs.declared.Pending.{Pending}
use Rattle.cache.specs.declared.look.Landing.{Landing}
use Rattle.cache.specs.declared.next.Next.{Next}
use Rattle.cache.proofs.LookLaws.{looked_aged}
use Rattle.cache.specs.Loads as Loads
use Rattle.cache.specs.Loads.{fetched, takes, withdrawn, moved, forgot, dropped, chunk_len, began_at, began, located, entry_step, readied, further, chunk_step}
use Rattle.cache.specs.declared.Loaded.{Loaded}
use Rattle.cache.specs.declared.Progress.{Progress}
use Rattle.matcher.specs.declared.Matched.{Matched}
use Rattle.matcher.specs.Gather as Gather
use Rattle.matcher.specs.Gather.{Run, run_over, updated}
use Rattle.matcher.specs.State.{counts_ok}
use Rattle.matcher.specs.declared.Matcher.{Matcher}
use Rattle.matcher.specs.declared.Outcome as MatchOutcome
use Rattle.matcher.specs.declared.Outcome.TheVariants as Found
use Rattle.matcher.specs.declared.Updated.{Updated}
use Rattle.matcher.specs.declared.gather.Ending.{Ending}
use Rattle.predict.specs.Predict as Predict
use Rattle.predict.specs.Predict.{predict_over, predicted_in}
use Rattle.predict.specs.declared.Outcome as RoadOutcome
use Rattle.predict.specs.declared.Outcome.TheVariants as Road
use Rattle.engine.specs.Fixes as Fixes
use Rattle.engine.specs.Fixes.{place_of}
use Rattle.engine.specs.Publish as Publish
use Rattle.engine.specs.Publish.{nothing_ahead}
use Rattle.engine.specs.Follow as Followers
use Rattle.engine.specs.declared.Ahead.{Ahead}
use Rattle.engine.specs.declared.Fix.{Fix}
use Rattle.engine.specs.declared.Follower.{Follower}
use Rattle.engine.specs.Calls as Calls
use Rattle.engine.specs.Deliver.{After, failing, with_pending, with_phase, with_failures, sector_of, header_failed, header_parsed, header_came, arrived, load_failed, loaded_by, part_came, fits_header, need_came_by, delivered_by, delivered}
use Rattle.engine.specs.State.{unchanged, followed, forgotten, is_ready, is_unread, header_ok, shared_ok, held_ok, need_ok, matched_ok, loads_needed, pending_ok, places_ok, ahead_ok, failures_ok, reload_limit, engine_ok}
use Rattle.engine.specs.Steps.{opened, ready_by, started_by, started, stepped_by, stepped}
use Rattle.engine.specs.Work.{counted, ended, off_map, match_ended_by, match_step, road_ended_by, road_step, road_due_by, at_fix_by, at_fix, worked_by, worked}
use Rattle.engine.specs.declared.Changed.{Changed}
use Rattle.engine.specs.declared.Engine.{Engine}
use Rattle.engine.specs.declared.Phase.{Phase}
use Rattle.engine.specs.declared.Shared.{Shared}
use Rattle.engine.specs.declared.Status.TheVariants as Status
use Rattle.engine.specs.declared.Stepped.{Stepped}
use Rattle.engine_states.proofs.KeptParts.{published_ok, Holds, EngineOk, same_fetch, no_fetch, apart, together, with_cache, cache_ok, none_pending, off_map_ok, road_off_ok, counted_ok, rematch_ok, standing_of, standing_ok, matched_ok_lem, match_asks_ok, road_asks_ok, needless_ok, failing_ok, failed_ok}
use Rattle.engine.proofs.NeedLaws.{need_by, need_is, part_is}
use Rattle.engine.proofs.TestedLaws.{need_in}
use Rattle.engine_states.proofs.MatcherKept as Matchers
use Rattle.engine_states.proofs.MatcherKept.{look_accepted, Standing, update_kept, update_needs}
use Rattle.engine_states.proofs.RoadBounds.{RoadIn, predict_in}
use Rattle.engine_states.proofs.SightKept.{both, seen_kept}

-- ---- a fix, the loss of fixes, another pack

either_ok : (t : Bool) (a b : Changed) (n : ℕ) → engine_ok a.engine n ≡ true → engine_ok b.engine n ≡ true → engine_ok (cond t a b).engine n ≡ true
either_ok true a b n p q = p
either_ok false a b n p q = q

pub fixed_ok : (s : Shared) (f : Follower) (fix : Fix) → is_point fix.lat fix.lon ≡ true → Holds s f → Holds s (Followers.fixed f fix)
unfolding Followers.fixed
fixed_ok s f fix here ok = by (Fixes.is_same_place f.sight.fix fix)
  where
    by : (t : Bool) → Holds s (cond t f (record {
      sight = Fixes.seen f.sight fix;
      matcher = f.matcher;
      due = Followers.match_asked f.due;
      ahead = f.ahead;
      failures = f.failures;
      horizon_m = f.horizon_m;
      steps = f.steps;
    }))
    by true = ok
    by false = record {
      due = ok.due;
      sight = seen_kept f.sight fix ok.sight here;
      matcher = ok.matcher;
      ahead = ok.ahead;
      failures = ok.failures;
    }

pub fixed_need : (f : Follower) (fix : Fix) → (Followers.fixed f fix).due.need ≡ f.due.need
unfolding Followers.fixed
fixed_need f fix = by (Fixes.is_same_place f.sight.fix fix) _ refl
  where
    by : (t : Bool) (g : Follower) → g.due.need ≡ f.due.need → (cond t f g).due.need ≡ f.due.need
    by true g e = refl
    by false g e = e

pub fix_kept : (e : Engine) (arena : List ℕ) (f : Fix) (n : ℕ) → engine_ok e n ≡ true → engine_ok (Calls.fix e arena f).engine n ≡ true
unfolding Calls.fix
fix_kept e arena f n ok =
    either_ok (engine_ok e (length arena)) _ _ n (by (is_point f.lat f.lon) refl) ok
  where
    by : (t : Bool) → is_point f.lat f.lon ≡ t
        → engine_ok (cond t (followed e (Followers.fixed e.follower f)) (unchanged e Refusal.OutOfRange)).engine n ≡ true
    by true here =
        let o : EngineOk e.shared e.follower n = apart e n ok in
        together (followed e (Followers.fixed e.follower f)).engine n
        (same_fetch e.shared e.follower (Followers.fixed e.follower f) n o (fixed_need e.follower f)
        (fixed_ok e.shared e.follower f here o.holds))
    by false here = ok

ahead_lost : (s : Shared) (a : Ahead) → ahead_ok s a ≡ true → ahead_ok s (Followers.lost_ahead a) ≡ true
unfolding nothing_ahead
ahead_lost s a ok = by (Followers.is_matched a.matched)
  where
    by : (t : Bool) → ahead_ok s (cond t (Publish.forgotten a) a) ≡ true
    by true = refl
    by false = ok

pub lost_ok : (s : Shared) (f : Follower) → Holds s f → Holds s (Followers.lost f)
unfolding Followers.lost places_ok lowest
lost_ok s f ok = record {
  due = ok.due;
  sight = refl;
  matcher = refl;
  ahead = ahead_lost s f.ahead ok.ahead;
  failures = ok.failures;
}

pub lost_kept : (e : Engine) (arena : List ℕ) (n : ℕ) → engine_ok e n ≡ true → engine_ok (Calls.lost e arena).engine n ≡ true
unfolding Calls.lost Followers.lost
lost_kept e arena n ok =
    let o : EngineOk e.shared e.follower n = apart e n ok in
    either_ok (engine_ok e (length arena)) _ _ n
    (together (followed e (Followers.lost e.follower)).engine n
    (same_fetch e.shared e.follower (Followers.lost e.follower) n o refl (lost_ok e.shared e.follower o.holds)))
    ok

module _ (clears : (c : Cache) → state_ok c ≡ true → state_ok (cleared c) ≡ true) where
  forgotten_ok : (e : Engine) (n : ℕ) → engine_ok e n ≡ true → engine_ok (forgotten e).engine n ≡ true
  unfolding forgotten Followers.reset nothing_ahead shared_ok cleared
  forgotten_ok e n ok = together (forgotten e).engine n (by (apart e n ok))
    where
      by : EngineOk e.shared e.follower n → EngineOk (forgotten e).engine.shared (forgotten e).engine.follower n
      by o = record {
        shared = both (state_ok (cleared e.shared.cache)) _ (clears e.shared.cache (and_left (state_ok e.shared.cache) _ o.shared))
            (both (arena_ok e.shared.cache n) true
            (and_left (arena_ok e.shared.cache n) (header_ok e.shared) (and_right (state_ok e.shared.cache) _ o.shared)) refl);
        holds = record {
          due = rw (le-leb 0 (reload_limit e.shared.cache.pages.count) (omega arith));
          sight = o.holds.sight;
          matcher = refl;
          ahead = refl;
          failures = refl;
        };
        pending = refl;
      }

  pub reset_kept : (e : Engine) (arena : List ℕ) (n : ℕ) → engine_ok e n ≡ true → engine_ok (Calls.reset e arena).engine n ≡ true
  unfolding Calls.reset
  reset_kept e arena n ok = either_ok (engine_ok e (length arena)) _ _ n (forgotten_ok e n ok) ok

-- ---- off the map, and idle

-- the follower with its step counted
counted_in : (e : Engine) (n : ℕ) → engine_ok e n ≡ true → EngineOk e.shared (counted e.follower) n
counted_in e n ok =
    let o : EngineOk e.shared e.follower n = apart e n ok in
    same_fetch e.shared e.follower (counted e.follower) n o refl (counted_ok e.shared e.follower o.holds)

pub off_map_kept : (e : Engine) (fix : Fix) (n : ℕ) → engine_ok e n ≡ true
    → engine_ok (ended e e.shared.cache (off_map (counted e.follower) fix) (Ok Status.OffMap)).engine n ≡ true
unfolding off_map
off_map_kept e fix n ok =
    let o : EngineOk e.shared (counted e.follower) n = counted_in e n ok in
    together (ended e e.shared.cache (off_map (counted e.follower) fix) (Ok Status.OffMap)).engine n
    (same_fetch e.shared (counted e.follower) (off_map (counted e.follower) fix) n o refl
    (off_map_ok e.shared (counted e.follower) o.holds fix))

pub idle_kept : (e : Engine) (n : ℕ) → engine_ok e n ≡ true
    → engine_ok (ended e e.shared.cache (counted e.follower) (Ok Status.Idle)).engine n ≡ true
idle_kept e n ok =
    together (ended e e.shared.cache (counted e.follower) (Ok Status.Idle)).engine n (counted_in e n ok)

-- ---- a match and a road, in phase Ready with no fetch open

either_stepped : (t : Bool) (a b : Stepped) (n : ℕ) → engine_ok a.engine n ≡ true → engine_ok b.engine n ≡ true → engine_ok (cond t a b).engine n ≡ true
either_stepped true a b n p q = p
either_stepped false a b n p q = q

aged_same : (c : Cache) → Aged c c
aged_same c = record { slots = refl; count = refl; missing = refl; loading = refl; pending = refl; loads = refl }

-- lookups of a match and of a road change clock and ages alone
module _ (c : Cache) (arena : List ℕ) (size : ℕ) (found : List TileKey) where
  pub updated_aged : (x : Ending) → Aged c (Gather.cache_after x c (looked c arena size found))
  updated_aged Ending.All = looked_aged arena size found c
  updated_aged (Ending.Need key) = looked_aged arena size found c
  updated_aged Ending.Stale = aged_same c

  pub predicted_aged : (x : Result RoadOutcome.Outcome Refusal) → Aged c (Predict.cache_after x c (looked c arena size found))
  predicted_aged (Ok (Road.Road r)) = looked_aged arena size found c
  predicted_aged (Ok (Road.Need key)) = looked_aged arena size found c
  predicted_aged (Ok Road.Rematch) = looked_aged arena size found c
  predicted_aged (Err refusal) = by (eqb (number_of refusal) 12)
    where
      by : (t : Bool) → Aged c (cond t c (looked c arena size found))
      by true = aged_same c
      by false = looked_aged arena size found c

-- a refusal leaves the engine as it was, and the rest what `ended` says
module _ (aged : (c d : Cache) → Aged c d → state_ok c ≡ true → state_ok d ≡ true) (e : Engine) (arena : List ℕ) (n : ℕ) (ok : engine_ok e n ≡ true)
    (ready : e.shared.phase ≡ Phase.Ready) (idle : e.shared.cache.pending ≡ Pending.Nothing) where
  -- what is shared after lookups
  looked_ok : (d : Cache) → Aged e.shared.cache d → EngineOk (with_cache e.shared d) (counted e.follower) n
  unfolding shared_ok
  looked_ok d a =
      let o : EngineOk e.shared (counted e.follower) n = counted_in e n ok in
      cache_ok e.shared d (counted e.follower) n o (aged e.shared.cache d a (and_left (state_ok e.shared.cache) _ o.shared)) a.count
      (none_pending (with_cache e.shared d) e.follower.due.need (a.pending ∙ idle))

  -- no fetch is open, so any follower that holds what it may
  works : (d : Cache) → Aged e.shared.cache d → (g : Follower) → Holds (with_cache e.shared d) g
      → engine_ok (record { shared = with_cache e.shared d; follower = g }) n ≡ true
  works d a g h =
      together (record { shared = with_cache e.shared d; follower = g }) n
      (no_fetch (with_cache e.shared d) (counted e.follower) g n (looked_ok d a) (a.pending ∙ idle) h)

  -- ---- a match

  match_by : (x : Result MatchOutcome.Outcome Refusal) (fix : Fix) (u : Updated) → Aged e.shared.cache u.cache → Standing e.shared.header u.matcher
      → Matchers.NeedIn e.shared.header x → engine_ok (match_ended_by x e (counted e.follower) fix u).engine n ≡ true
  match_by (Ok (Found.Found m)) fix u a p need =
      works u.cache a _ (matched_ok_lem (with_cache e.shared u.cache) (counted e.follower) (looked_ok u.cache a).holds u.matcher fix
      (standing_ok (with_cache e.shared u.cache) u.matcher ready p))
  match_by (Ok Found.Nothing) fix u a p need =
      works u.cache a _ (matched_ok_lem (with_cache e.shared u.cache) (counted e.follower) (looked_ok u.cache a).holds u.matcher fix
      (standing_ok (with_cache e.shared u.cache) u.matcher ready p))
  match_by (Ok (Found.Need key)) fix u a p need =
      works u.cache a _ (match_asks_ok (with_cache e.shared u.cache) (counted e.follower) (looked_ok u.cache a).holds ready key need)
  match_by (Err number) fix u a p need = ok

  pub match_kept : (fix : Fix) → engine_ok (match_step e arena (counted e.follower) fix).engine n ≡ true
  unfolding match_step updated
  match_kept fix =
      let c : Cache = e.shared.cache in
      let h : Header = e.shared.header in
      let m : Matcher = e.follower.matcher in
      let at = look c arena h.tile in
      let r : Run = run_over at m h (place_of fix) e.follower.sight.heading in
      let u : Updated = updated m c arena h (place_of fix) e.follower.sight.heading in
      match_by u.answer fix u (updated_aged c arena h.tile r.found r.end)
      (update_kept h at (look_accepted c arena h) m (place_of fix) e.follower.sight.heading
      (standing_of e.shared m ready (apart e n ok).holds.matcher))
      (update_needs h at (look_accepted c arena h) m (place_of fix) e.follower.sight.heading)

  -- ---- a road

  road_by : (x : Result RoadOutcome.Outcome Refusal) (fix : Fix) (found : Matched) (p : Predict.After) → Aged e.shared.cache p.predicted.cache
      → held_ok e.shared found.tile.key ≡ true → RoadIn e.shared.header 501 11 x
      → engine_ok (road_ended_by x e (counted e.follower) fix found p).engine n ≡ true
  road_by (Ok (Road.Road r)) fix found p a key most =
      works p.predicted.cache a _
      (published_ok (with_cache e.shared p.predicted.cache) (counted e.follower) (looked_ok p.predicted.cache a).holds _ fix found r key
      most.0 most.1)
  road_by (Ok (Road.Need needed)) fix found p a key is_in_grid =
      works p.predicted.cache a _
      (road_asks_ok (with_cache e.shared p.predicted.cache) (counted e.follower) (looked_ok p.predicted.cache a).holds ready needed is_in_grid fix
      found key)
  road_by (Ok Road.Rematch) fix found p a key most =
      works p.predicted.cache a _
      (rematch_ok (with_cache e.shared p.predicted.cache) (counted e.follower) (looked_ok p.predicted.cache a).holds)
  road_by (Err refusal) fix found p a key most =
      either_stepped (eqb (number_of refusal) 10) _ _ n
      (works p.predicted.cache a _
      (rematch_ok (with_cache e.shared p.predicted.cache) (counted e.follower) (looked_ok p.predicted.cache a).holds))
      ok

  -- the matcher's match lies in the grid
  current_held : (found : Matched) → e.follower.matcher.current ≡ Some found → held_ok e.shared found.tile.key ≡ true
  current_held found is = rw is at (and_right (counts_ok e.follower.matcher) (matched_ok e.shared e.follower.matcher.current) (apart e n ok).holds.matcher)

  pub road_kept : (fix : Fix) (found : Matched) → e.follower.matcher.current ≡ Some found
      → engine_ok (road_step e arena (counted e.follower) fix found).engine n ≡ true
  unfolding road_step predicted_in
  road_kept fix found is =
      let c : Cache = e.shared.cache in
      let h : Header = e.shared.header in
      let key : held_ok e.shared found.tile.key ≡ true = current_held found is in
      let samples : List ℤ = replicate 501 (pos 0) in
      let behind : List ℤ = replicate 11 (pos 0) in
      let at = look c arena h.tile in
      let p : Predict.After = predicted_in c arena h found e.follower.horizon_m samples behind in
      road_by p.predicted.answer fix found p
      (predicted_aged c arena h.tile (predict_over at c.pages.count h found e.follower.horizon_m samples behind).carried p.predicted.answer) key
      (predict_in at c.pages.count h found e.follower.horizon_m samples behind (rw ready at key)
      (length-replicate 501 (pos 0)) (length-replicate 11 (pos 0)))

  -- ---- the work of a step

  road_due_by_lem : (x : Option Matched) (fix : Fix) → e.follower.matcher.current ≡ x
      → engine_ok (road_due_by x e arena (counted e.follower) fix).engine n ≡ true
  road_due_by_lem (Some found) fix is = road_kept fix found is
  road_due_by_lem None fix is =
      let o : EngineOk e.shared (counted e.follower) n = counted_in e n ok in
      together _ n (same_fetch e.shared (counted e.follower) _ n o refl (road_off_ok e.shared (counted e.follower) o.holds))

  at_fix_by_lem : (x : Option TileKey) (fix : Fix) → engine_ok (at_fix_by x e arena (counted e.follower) fix).engine n ≡ true
  at_fix_by_lem (Some key) fix =
      either_stepped e.follower.due.matching _ _ n (match_kept fix)
      (either_stepped e.follower.due.road _ _ n (road_due_by_lem e.follower.matcher.current fix refl) (idle_kept e n ok))
  at_fix_by_lem None fix = off_map_kept e fix n ok

  worked_by_lem : (x : Option Fix) → engine_ok (worked_by x e arena (counted e.follower)).engine n ≡ true
  unfolding at_fix
  worked_by_lem None = idle_kept e n ok
  worked_by_lem (Some fix) = at_fix_by_lem (key_of e.shared.header fix.lat fix.lon) fix

  pub worked_kept : engine_ok (worked e arena).engine n ≡ true
  unfolding worked
  worked_kept = worked_by_lem e.follower.sight.fix

-- ---- keys and the next step towards one

key_same : (k : TileKey) → same_key k k ≡ true
key_same k = rw (eq-eqb k.row k.row refl, eq-eqb k.col k.col refl)

pub same_key_lem : (a b : TileKey) → same_key a b ≡ true → a ≡ b
same_key_lem a b e =
    let row : a.row ≡ b.row = eqb-true a.row b.row (and_left (eqb a.row b.row) _ e) in
    let col : a.col ≡ b.col = eqb-true a.col b.col (and_right (eqb a.row b.row) _ e) in
    λ i. record { row = row i; col = col i }

-- a chunk is read of the load that is under way, which is the key's
chunk_read : (m : Option Loading) (key : TileKey) (l : Loading) → next_read m key ≡ Next.Chunk l → loads_needed m (Some key) ≡ true
chunk_read None key l e = let z : ◌≡◌ {A = ℕ} 0 1 = cc in absurd (omega arith)
chunk_read (Some k) key l e = by (same_key k.key key) refl e
  where
    by : (t : Bool) → same_key k.key key ≡ t → cond t (Next.Chunk k) Next.Entry ≡ Next.Chunk l → same_key key k.key ≡ true
    by true s e = rw (same_key_lem k.key key s) (key_same key)
    by false s e = let z : ◌≡◌ {A = ℕ} 0 1 = cc in absurd (omega arith)

chunk_at : (x : Landing) (c : Cache) (key : TileKey) (l : Loading) → next_at x c key ≡ Next.Chunk l → loads_needed c.loading (Some key) ≡ true
chunk_at (Landing.At i) c key l e = let z : ◌≡◌ {A = ℕ} 0 1 = cc in absurd (omega arith)
chunk_at Landing.Missing c key l e = let z : ◌≡◌ {A = ℕ} 0 1 = cc in absurd (omega arith)
chunk_at Landing.Nothing c key l e = by (eqb c.pages.count 0) e
  where
    by : (t : Bool) → cond t Next.NoPages (next_read c.loading key) ≡ Next.Chunk l → loads_needed c.loading (Some key) ≡ true
    by true e = let z : ◌≡◌ {A = ℕ} 0 1 = cc in absurd (omega arith)
    by false e = chunk_read c.loading key l e

chunk_loads : (c : Cache) (key : TileKey) (l : Loading) → next_step c key ≡ Next.Chunk l → loads_needed c.loading (Some key) ≡ true
unfolding next_step
chunk_loads c key l e = chunk_at (lands_on c key) c key l e

-- ---- the tile is settled, or a fetch is opened

module _ (e : Engine) (n : ℕ) (ok : engine_ok e n ≡ true) where
  pub state_is : state_ok e.shared.cache ≡ true
  unfolding shared_ok
  state_is = and_left (state_ok e.shared.cache) _ (apart e n ok).shared

  -- another cache with no fetch open
  other_ok : (d : Cache) → state_ok d ≡ true → d.pages.count ≡ e.shared.cache.pages.count → d.pending ≡ Pending.Nothing
      → EngineOk (with_cache e.shared d) (counted e.follower) n
  other_ok d good count idle =
      cache_ok e.shared d (counted e.follower) n (counted_in e n ok) good count
      (none_pending (with_cache e.shared d) e.follower.due.need idle)

  arrived_ok : (d : Cache) → state_ok d ≡ true → d.pages.count ≡ e.shared.cache.pages.count → d.pending ≡ Pending.Nothing
      → engine_ok (arrived e d).engine n ≡ true
  unfolding arrived
  arrived_ok d good count idle =
      let o : EngineOk (with_cache e.shared d) (counted e.follower) n = other_ok d good count idle in
      together _ n
      (no_fetch (with_cache e.shared d) (counted e.follower) _ n o idle (needless_ok (with_cache e.shared d) (counted e.follower) o.holds))

  -- whatever it reads
  opened_ok : (p : Pending) → state_ok (with_pending e.shared.cache p) ≡ true
      → pending_ok (with_cache e.shared (with_pending e.shared.cache p)) e.follower.due.need ≡ true
      → engine_ok (opened e p).engine n ≡ true
  opened_ok p good fits =
      together _ n (cache_ok e.shared (with_pending e.shared.cache p) e.follower n (apart e n ok) good refl fits)

pub touched_aged : (c : Cache) (i : ℕ) → Aged c (touched c i)
unfolding touched
touched_aged c i = record { slots = refl; count = refl; missing = refl; loading = refl; pending = refl; loads = refl }

-- ---- a step

module _ (aged : (c d : Cache) → Aged c d → state_ok c ≡ true → state_ok d ≡ true)
    (opens_header : (c : Cache) → state_ok c ≡ true → state_ok (with_pending c Pending.Header) ≡ true)
    (opens_entry : (c : Cache) (key : TileKey) → state_ok c ≡ true → next_step c key ≡ Next.Entry → state_ok (with_pending c (Pending.Entry key)) ≡ true)
    (opens_chunk : (c : Cache) (key : TileKey) (l : Loading) → state_ok c ≡ true → next_step c key ≡ Next.Chunk l
    → state_ok (with_pending c Pending.Chunk) ≡ true)
    (forgets : (c : Cache) (key : TileKey) → state_ok c ≡ true → state_ok (forgot c key) ≡ true) where
  module _ (e : Engine) (arena : List ℕ) (n : ℕ) (ok : engine_ok e n ≡ true) where
    module _ (ready : e.shared.phase ≡ Phase.Ready) (idle : e.shared.cache.pending ≡ Pending.Nothing) where
      need_by_lem : (x : Next) (key : TileKey) → next_step e.shared.cache key ≡ x → e.follower.due.need ≡ Some key
          → engine_ok (need_by (fetched e.shared.cache x arena e.shared.header key) x e key).engine n ≡ true
      unfolding forgot
      need_by_lem (Next.Ready i) key q need = by (passes arena i (len_at e.shared.cache i) key e.shared.header.tile)
        where
          by : (t : Bool) → engine_ok (need_by (cond t (Ok None) (Err Refusal.BadState)) (Next.Ready i) e key).engine n ≡ true
          by true =
              let a : Aged e.shared.cache (touched e.shared.cache i) = touched_aged e.shared.cache i in
              arrived_ok e n ok (touched e.shared.cache i) (aged e.shared.cache _ a (state_is e n ok)) a.count (a.pending ∙ idle)
          by false = ok
      need_by_lem Next.Missing key q need = arrived_ok e n ok e.shared.cache (state_is e n ok) refl idle
      need_by_lem Next.NoPages key q need =
          arrived_ok e n ok (forgot e.shared.cache key) (forgets e.shared.cache key (state_is e n ok)) refl (ap withdrawn idle)
      need_by_lem Next.Entry key q need =
          opened_ok e n ok (Pending.Entry key) (opens_entry e.shared.cache key (state_is e n ok) q) (rw (ready, need) (key_same key))
      need_by_lem (Next.Chunk l) key q need =
          opened_ok e n ok Pending.Chunk (opens_chunk e.shared.cache key l (state_is e n ok) q)
          (rw (ready, need) (chunk_loads e.shared.cache key l q))

      ready_by_lem : (x : Option TileKey) → e.follower.due.need ≡ x → engine_ok (ready_by x e arena).engine n ≡ true
      ready_by_lem (Some key) need =
          subst (λ (s : Stepped). engine_ok s.engine n ≡ true) (sym (need_is e arena key (need_in e n ok key ready need) (state_is e n ok)))
          (need_by_lem (next_step e.shared.cache key) key refl need)
      ready_by_lem None need = worked_kept aged e arena n ok ready idle

    started_by_lem : (x : Phase) → e.shared.phase ≡ x → e.shared.cache.pending ≡ Pending.Nothing → engine_ok (started_by x e arena).engine n ≡ true
    started_by_lem Phase.Failed q idle = ok
    started_by_lem Phase.Unread q idle = opened_ok e n ok Pending.Header (opens_header e.shared.cache (state_is e n ok)) (rw q)
    started_by_lem Phase.Ready q idle = ready_by_lem q idle e.follower.due.need refl

    stepped_by_lem : (x : Pending) → e.shared.cache.pending ≡ x → engine_ok (stepped_by x e arena).engine n ≡ true
    unfolding started
    stepped_by_lem Pending.Nothing q = started_by_lem e.shared.phase refl q
    stepped_by_lem Pending.Header q = ok
    stepped_by_lem (Pending.Entry key) q = ok
    stepped_by_lem Pending.Chunk q = ok

    pub step_kept : engine_ok (Calls.step e arena).engine n ≡ true
    unfolding Calls.step stepped
    step_kept = either_stepped (engine_ok e (length arena)) _ _ n (stepped_by_lem e.shared.cache.pending refl) ok

-- ---- the header came

unread_is : (x : Phase) → is_unread x ≡ true → x ≡ Phase.Unread
unread_is Phase.Unread e = refl
unread_is Phase.Ready e = absurd (true≢false (sym e))
unread_is Phase.Failed e = absurd (true≢false (sym e))

pub ready_is : (x : Phase) → is_ready x ≡ true → x ≡ Phase.Ready
ready_is Phase.Ready e = refl
ready_is Phase.Unread e = absurd (true≢false (sym e))
ready_is Phase.Failed e = absurd (true≢false (sym e))

-- an unread header has nothing needed or matched, so nothing that another would refuse
need_unread : (s x : Shared) (need : Option TileKey) → s.phase ≡ Phase.Unread → need_ok s need ≡ true → need_ok x need ≡ true
need_unread s x None unread ok = refl
need_unread s x (Some key) unread ok = absurd (true≢false (sym (rw unread at ok)))

matched_unread : (s x : Shared) (m : Option Matched) → s.phase ≡ Phase.Unread → matched_ok s m ≡ true → matched_ok x m ≡ true
matched_unread s x None unread ok = refl
matched_unread s x (Some m) unread ok = absurd (true≢false (sym (rw unread at ok)))

failures_few : (k : ℕ) → failures_ok Phase.Unread k ≡ true → ltb k 8 ≡ true
failures_few k ok = by (ltb k 8) ok
  where
    by : (t : Bool) → cond t true (eqb k 8 && false) ≡ true → t ≡ true
    by true e = refl
    by false e = absurd (true≢false (sym (and_right (eqb k 8) false e)))

few_failures : (x : Phase) (k : ℕ) → ltb k 8 ≡ true → failures_ok x k ≡ true
few_failures x k few = rw few

either_true : (t : Bool) (a b : Stepped) (n : ℕ) → (t ≡ true → engine_ok a.engine n ≡ true) → engine_ok b.engine n ≡ true
    → engine_ok (cond t a b).engine n ≡ true
either_true true a b n p q = p refl
either_true false a b n p q = q

-- a follower that holds what it may while the header is unread holds nothing of its grid, and so whatever comes
pub renewed_holds : (s : Shared) (x : Phase) (h : Header) (f : Follower) (k : ℕ) → s.phase ≡ Phase.Unread → failures_ok x k ≡ true → Holds s f
    → Holds (with_phase s x h) (failing f k)
renewed_holds s x h f k unread few o =
    let next : Shared = with_phase s x h in
    let due : need_ok s f.due.need ≡ true = and_right (leb f.due.reloads (reload_limit s.cache.pages.count)) _ o.due in
    let behind : (leb f.ahead.behind_len 11 && matched_ok s f.ahead.matched) ≡ true = and_right (leb f.ahead.len 501) _ o.ahead in
    record {
      due =
          both (leb f.due.reloads (reload_limit s.cache.pages.count)) _
          (and_left (leb f.due.reloads (reload_limit s.cache.pages.count)) _ o.due)
          (need_unread s next f.due.need unread due);
      sight = o.sight;
      matcher =
          both (counts_ok f.matcher) _ (and_left (counts_ok f.matcher) _ o.matcher)
          (matched_unread s next f.matcher.current unread (and_right (counts_ok f.matcher) _ o.matcher));
      ahead =
          both (leb f.ahead.len 501) _ (and_left (leb f.ahead.len 501) _ o.ahead)
          (both (leb f.ahead.behind_len 11) _ (and_left (leb f.ahead.behind_len 11) _ behind)
          (matched_unread s next f.ahead.matched unread (and_right (leb f.ahead.behind_len 11) _ behind)));
      failures = few;
    }

module _ (opens_nothing : (c : Cache) → state_ok c ≡ true → state_ok (with_pending c Pending.Nothing) ≡ true)
    (e : Engine) (n : ℕ) (ok : engine_ok e n ≡ true) (unread : e.shared.phase ≡ Phase.Unread) where
  renewed_ok : (x : Phase) (h : Header) (k : ℕ) → header_ok (with_phase e.shared x h) ≡ true → failures_ok x k ≡ true
      → engine_ok (with_failures e (with_phase e.shared x h) k (Ok Status.Working)).engine n ≡ true
  unfolding shared_ok
  renewed_ok x h k good few =
      let s : Shared = e.shared in
      let next : Shared = with_phase s x h in
      let o : EngineOk s e.follower n = apart e n ok in
      let shared : (arena_ok s.cache n && header_ok s) ≡ true = and_right (state_ok s.cache) _ o.shared in
      together _ n
      (record {
        shared =
            both (state_ok next.cache) _ (opens_nothing s.cache (state_is e n ok))
            (both (arena_ok s.cache n) _ (and_left (arena_ok s.cache n) _ shared) good);
        holds = renewed_holds s x h e.follower k unread few o.holds;
        pending = refl;
      })

  few : ltb e.follower.failures 8 ≡ true
  few = failures_few e.follower.failures (rw unread at (apart e n ok).holds.failures)

  header_failed_kept : (failure : ℕ) → engine_ok (header_failed e failure).engine n ≡ true
  unfolding header_failed
  header_failed_kept failure =
      let k : ℕ = e.follower.failures in
      either_true (eqb failure 1 && ltb k 7) _ _ n
      (λ t. renewed_ok Phase.Unread e.shared.header (k + 1) refl
      (few_failures Phase.Unread (k + 1) (lt-ltb (k + 1) 8 (omega (arith, ltb-true k 7 (and_right (eqb failure 1) _ t))))))
      (renewed_ok Phase.Failed e.shared.header k refl (few_failures Phase.Failed k few))

  parsed_kept : (x : Result Header Refusal) → ((h : Header) → x ≡ Ok h → rules h ≡ true) → engine_ok (header_parsed x e).engine n ≡ true
  parsed_kept (Ok h) good = renewed_ok Phase.Ready h 0 (good h refl) refl
  parsed_kept (Err refusal) good = header_failed_kept (number_of refusal)

  header_kept : (failure : ℕ) (bs : List ℕ) → engine_ok (header_came e failure bs).engine n ≡ true
  unfolding header_came
  header_kept failure bs =
      either_stepped (eqb failure 0) _ _ n (parsed_kept (parse (sector_of bs)) (λ h q. (parse_accepted (sector_of bs) q).0)) (header_failed_kept failure)

-- ---- a part of the needed tile came

-- a step that reads
abbrev pub is_read : Next → Bool
is_read Next.Entry = true
is_read (Next.Chunk l) = true
is_read (Next.Ready i) = false
is_read Next.Missing = false
is_read Next.NoPages = false

entry_reads : (x : Next) → is_entry x ≡ true → is_read x ≡ true
entry_reads Next.Entry e = refl
entry_reads (Next.Chunk l) e = refl
entry_reads (Next.Ready i) e = e
entry_reads Next.Missing e = e
entry_reads Next.NoPages e = e

chunk_reads : (x : Next) → is_chunk x ≡ true → is_read x ≡ true
chunk_reads Next.Entry e = refl
chunk_reads (Next.Chunk l) e = refl
chunk_reads (Next.Ready i) e = e
chunk_reads Next.Missing e = e
chunk_reads Next.NoPages e = e

-- the fetch is closed with it
module _ (c : Cache) (none : withdrawn c.pending ≡ Pending.Nothing) where
  either_closed : (t : Bool) (a b : Loaded) → a.cache.pending ≡ Pending.Nothing → b.cache.pending ≡ Pending.Nothing
      → (cond t a b).cache.pending ≡ Pending.Nothing
  either_closed true a b p q = p
  either_closed false a b p q = q

  either_after : (t : Bool) (a b : Loads.After) → a.cache.pending ≡ Pending.Nothing → b.cache.pending ≡ Pending.Nothing
      → (cond t a b).cache.pending ≡ Pending.Nothing
  either_after true a b p q = p
  either_after false a b p q = q

  either_cache : (t : Bool) (a b : Cache) → a.pending ≡ Pending.Nothing → b.pending ≡ Pending.Nothing → (cond t a b).pending ≡ Pending.Nothing
  either_cache true a b p q = p
  either_cache false a b p q = q

  began_closed : (x : Option ℕ) (g : Pages) (key : TileKey) (offset len : ℕ) → (began_at x (dropped c) g key offset len).cache.pending ≡ Pending.Nothing
  unfolding dropped moved forgot
  began_closed None g key offset len = ap withdrawn none
  began_closed (Some slot) g key offset len = ap withdrawn none

  located_closed : (x : Result (Option (ℕ × ℕ)) Refusal) (key : TileKey) → (located x (dropped c) key).cache.pending ≡ Pending.Nothing
  unfolding dropped moved forgot began
  located_closed (Ok None) key = ap withdrawn none
  located_closed (Err number) key = none
  located_closed (Ok (Some (offset, len))) key =
      let b = begun (dropped c).pages key len in
      either_closed (ltb 49152 len) _ _ (ap withdrawn none) (began_closed b.at b.pages key offset len)

  step_closed : (x : Next) (arena : List ℕ) (h : Header) (key : TileKey) (failure : ℕ) (bs : List ℕ) → is_read x ≡ true
      → (Loads.stepped c x arena h key failure bs).cache.pending ≡ Pending.Nothing
  unfolding entry_step chunk_step dropped moved forgot further Loads.ended readied touched
  step_closed Next.Entry arena h key failure bs r =
      either_closed (eqb failure 0) _ _ (located_closed (locate_of h bs) key) none
  step_closed (Next.Chunk l) arena h key failure bs r =
      either_after (eqb failure 0) _ _
      (either_after (ltb (l.done + chunk_len l) l.len) _ _ none (either_cache (passes _ l.slot l.len l.key h.tile) _ _ none (ap withdrawn none)))
      none
  step_closed (Next.Ready i) arena h key failure bs r = absurd (true≢false (sym r))
  step_closed Next.Missing arena h key failure bs r = absurd (true≢false (sym r))
  step_closed Next.NoPages arena h key failure bs r = absurd (true≢false (sym r))

module _ (e : Engine) (n : ℕ) (ok : engine_ok e n ≡ true) (d : Cache) (good : state_ok d ≡ true)
    (count : d.pages.count ≡ e.shared.cache.pages.count) (idle : d.pending ≡ Pending.Nothing) where
  load_failed_kept : engine_ok (load_failed e d).engine n ≡ true
  unfolding load_failed
  load_failed_kept =
      let k : ℕ = e.follower.failures in
      let o : EngineOk (with_cache e.shared d) (counted e.follower) n = other_ok e n ok d good count idle in
      either_true (ltb k 7) _ _ n
      (λ t. together _ n (no_fetch (with_cache e.shared d) (counted e.follower) _ n o idle
      (failing_ok (with_cache e.shared d) (counted e.follower) (k + 1)
      (few_failures e.shared.phase (k + 1) (lt-ltb (k + 1) 8 (omega (arith, ltb-true k 7 t)))) o.holds)))
      (together _ n (failed_ok (with_cache e.shared d) (counted e.follower) n idle o))

  loaded_kept : (x : Result Progress Refusal) → engine_ok (loaded_by x e d).engine n ≡ true
  loaded_kept (Ok Progress.Done) = arrived_ok e n ok d good count idle
  loaded_kept (Ok Progress.More) = together _ n (other_ok e n ok d good count idle)
  loaded_kept (Ok (Progress.Failed number)) = load_failed_kept
  loaded_kept (Err number) = ok

-- ---- the delivery

-- which read is open, so that the next step makes it
module _ (c : Cache) (key : TileKey) (ok : state_ok c ≡ true) where
  pub open_fits : (p : Pending) → c.pending ≡ p → pending_fits p c ≡ true
  unfolding state_ok
  open_fits p is =
      sym (ap (λ (x : Pending). pending_fits x c) is) ∙ clause 3 (runs_ok c ∷ ring_ok c ∷ load_ok c ∷ pending_fits c.pending c ∷ []) ok

  entry_open : (k : TileKey) → c.pending ≡ Pending.Entry k → same_key key k ≡ true → is_read (next_step c key) ≡ true
  entry_open k is same = entry_reads (next_step c key) (rw (same_key_lem key k same) (open_fits (Pending.Entry k) is))

  chunk_wanted : (m : Option Loading) → wants_chunk_of m c ≡ true → loads_needed m (Some key) ≡ true → is_read (next_step c key) ≡ true
  chunk_wanted None w l = absurd (true≢false (sym w))
  chunk_wanted (Some k) w l = chunk_reads (next_step c key) (rw (same_key_lem key k.key l) w)

  chunk_open : c.pending ≡ Pending.Chunk → loads_needed c.loading (Some key) ≡ true → is_read (next_step c key) ≡ true
  chunk_open is needed = chunk_wanted c.loading (open_fits Pending.Chunk is) needed

either_told : (t : Bool) (a b : After) (n : ℕ) → (t ≡ true → engine_ok a.engine n ≡ true) → engine_ok b.engine n ≡ true
    → engine_ok (cond t a b).engine n ≡ true
either_told true a b n p q = p refl
either_told false a b n p q = q

-- a load writes into the slots, so it takes the 96 that there are
module _ (opens_nothing : (c : Cache) → state_ok c ≡ true → state_ok (with_pending c Pending.Nothing) ≡ true)
    (steps : (c : Cache) (arena : List ℕ) (h : Header) (key : TileKey) (failure : ℕ) (bs : List ℕ) → length c.pages.slots ≡ 96 → state_ok c ≡ true
    → takes (next_step c key) h key failure (length bs) ≡ true → in_grid h key ≡ true
    → state_ok (Loads.stepped c (next_step c key) arena h key failure bs).cache ≡ true)
    (counts : (c : Cache) (arena : List ℕ) (h : Header) (key : TileKey) (failure : ℕ) (bs : List ℕ)
    → (Loads.stepped c (next_step c key) arena h key failure bs).cache.pages.count ≡ c.pages.count)
    (e : Engine) (arena : List ℕ) (failure : ℕ) (bs : List ℕ) (n : ℕ) (size : length e.shared.cache.pages.slots ≡ 96) (ok : engine_ok e n ≡ true)
  where
    need_held : need_ok e.shared e.follower.due.need ≡ true
    need_held =
        and_right (leb e.follower.due.reloads (reload_limit e.shared.cache.pages.count)) _ (apart e n ok).holds.due

    -- the fetch that is open is one that the state would make
    fetch_open : pending_ok e.shared e.follower.due.need ≡ true
    fetch_open = (apart e n ok).pending

    part_kept : (key : TileKey) → e.shared.phase ≡ Phase.Ready → e.follower.due.need ≡ Some key
        → is_read (next_step e.shared.cache key) ≡ true → withdrawn e.shared.cache.pending ≡ Pending.Nothing
        → engine_ok (part_came e arena key failure bs).engine n ≡ true
    part_kept key ready need reads closed =
        let c : Cache = e.shared.cache in
        let h : Header = e.shared.header in
        let held : need_ok e.shared (Some key) ≡ true = rw need at need_held in
        let is_in_grid : in_grid h key ≡ true = rw ready at held in
        let x : Loads.After = Loads.stepped c (next_step c key) arena h key failure bs in
        subst (λ (a : After). engine_ok a.engine n ≡ true) (sym (part_is e arena key failure bs is_in_grid))
        (either_told (takes (next_step c key) h key failure (length bs)) _ _ n
        (λ fits. loaded_kept e n ok x.cache (steps c arena h key failure bs size (state_is e n ok) fits is_in_grid)
        (counts c arena h key failure bs) (step_closed c closed (next_step c key) arena h key failure bs reads) x.answer)
        ok)

    entry_came : (x : Option TileKey) (k : TileKey) → e.follower.due.need ≡ x → e.shared.cache.pending ≡ Pending.Entry k
        → engine_ok (need_came_by x e arena failure bs).engine n ≡ true
    entry_came None k need is = ok
    entry_came (Some key) k need is =
        let fits : (is_ready e.shared.phase && same_key key k) ≡ true = rw (is, need) at fetch_open in
        part_kept key (ready_is e.shared.phase (and_left (is_ready e.shared.phase) _ fits)) need
        (entry_open e.shared.cache key (state_is e n ok) k is (and_right (is_ready e.shared.phase) _ fits)) (ap withdrawn is)

    chunk_came : (x : Option TileKey) → e.follower.due.need ≡ x → e.shared.cache.pending ≡ Pending.Chunk
        → engine_ok (need_came_by x e arena failure bs).engine n ≡ true
    chunk_came None need is = ok
    chunk_came (Some key) need is =
        let fits : (is_ready e.shared.phase && loads_needed e.shared.cache.loading (Some key)) ≡ true = rw (is, need) at fetch_open in
        part_kept key (ready_is e.shared.phase (and_left (is_ready e.shared.phase) _ fits)) need
        (chunk_open e.shared.cache key (state_is e n ok) is (and_right (is_ready e.shared.phase) _ fits)) (ap withdrawn is)

    delivered_by_lem : (x : Pending) → e.shared.cache.pending ≡ x → engine_ok (delivered_by x e arena failure bs).engine n ≡ true
    delivered_by_lem Pending.Nothing is = ok
    delivered_by_lem Pending.Header is =
        either_told (fits_header failure (length bs)) _ _ n
        (λ t. header_kept opens_nothing e n ok (unread_is e.shared.phase (rw is at fetch_open)) failure bs) ok
    delivered_by_lem (Pending.Entry key) is = entry_came e.follower.due.need key refl is
    delivered_by_lem Pending.Chunk is = chunk_came e.follower.due.need refl is

    pub deliver_kept : engine_ok (Calls.deliver e arena failure bs).engine n ≡ true
    unfolding Calls.deliver delivered
    deliver_kept = either_told (engine_ok e (length arena)) _ _ n (λ t. delivered_by_lem e.shared.cache.pending refl) ok
