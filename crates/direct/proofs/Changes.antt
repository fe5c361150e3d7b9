-- What the calls leave of cache and arena: whatever holds of them and is kept by the few changes of the cache's state is kept by every step,
-- delivery and lookup. By the ways that a call goes.
use Rattle.refusal.specs.declared.Refusal.{Refusal}
use Rattle.std.specs.Prelude.{Result, Ok, Err}
use Rattle.refusal.specs.Refusal.{number_of, number_of_result}
use Prim.Native.Nat.{ℕ}
use mathlib.Core.Path.{◌≡◌, refl}
use mathlib.Core.Bool.{Bool, true, false, ◌&&◌, cond}
use mathlib.Core.List.{List, [], ◌∷◌}
use lib.Dec.{eqb, ltb}
use lib.Ieee.{Float}
use lib.IntN.{ℤ}
use lib.ListN.{length}
use Rattle.pack.specs.Grid.{in_grid, is_point}
use Rattle.pack.specs.declared.Header.{Header}
use Rattle.pack.specs.declared.TileKey.{TileKey}
use Rattle.geo.specs.declared.Point.{Point}
use Rattle.cache.specs.Direct.{look, looked}
use Rattle.cache.specs.Lookups.{lands_on, passes, len_at, touched, got_at, got_ready, got, next_step}
use Rattle.cache.specs.State.{pending_fits, cache_ok}
use Rattle.cache.specs.declared.Cache.{Cache}
use Rattle.cache.specs.declared.Pending.{Pending}
use Rattle.cache.specs.declared.look.Landing.{Landing}
use Rattle.cache.specs.declared.next.Next.{Next}
use Rattle.cache.specs.Loads as Loads
use Rattle.cache.specs.Loads.{forgot, told}
use Rattle.cache_lists.proofs.Lookups.{next_is}
use Rattle.cache_lists.proofs.Steps.{Step, refuses, knows, uses, no_pages, fails, lacks, begins, goes_on, readies, spoils, load_is}
use Rattle.matcher.specs.declared.Heading.{Heading}
use Rattle.matcher.specs.declared.Matched.{Matched}
use Rattle.matcher.specs.Calls as Matching
use Rattle.matcher.specs.Gather as Gather
use Rattle.matcher.specs.State.{heading_ok, call_ok, refused}
use Rattle.matcher.specs.declared.Matcher.{Matcher}
use Rattle.matcher.specs.declared.Outcome as MatchOutcome
use Rattle.matcher.specs.declared.Outcome.TheVariants as Match
use Rattle.matcher.specs.declared.Updated.{Updated}
use Rattle.matcher.specs.declared.gather.Ending.{Ending}
use Rattle.predict.specs.Predict as Predict
use Rattle.predict.specs.declared.Outcome as RoadOutcome
use Rattle.predict.specs.declared.Outcome.TheVariants as Roads
use Rattle.engine.specs.declared.Fix.{Fix}
use Rattle.engine.specs.declared.Follower.{Follower}
use Rattle.engine.specs.State as States
use Rattle.engine.specs.State.{engine_ok}
use Rattle.engine.specs.Work.{counted, match_ended_by, road_ended_by}
use Rattle.engine.specs.Deliver.{After, with_pending, arrived, header_failed, load_failed, loaded}
use Rattle.engine.specs.Deliver as Delivered
use Rattle.engine.proofs.NeedLaws.{settled}
use Rattle.engine.specs.Steps.{stepped}
use Rattle.engine.specs.Calls as Engines
use Rattle.engine.specs.declared.Engine.{Engine}
use Rattle.engine.specs.declared.Stepped.{Stepped}
use Rattle.direct.specs.Finished.{Task, match_of, road_at}
use Rattle.engine_states.proofs.Ways as Ways
use Rattle.engine_states.proofs.Ways.{Steps, Delivers, Brings, brought, step_is, deliver_is}

module _ (Q : Cache → List ℕ → Type 0) (touches : (c : Cache) (arena : List ℕ) (i : ℕ) → Q c arena → Q (touched c i) arena) where
  -- ---- lookups

  either : (t : Bool) (c d : Cache) (arena : List ℕ) → Q c arena → Q d arena → Q (cond t c d) arena
  either true c d arena p q = p
  either false c d arena p q = q

  module _ (arena : List ℕ) (size : ℕ) where
    got_at_lem : (c : Cache) (key : TileKey) (x : Landing) → Q c arena → Q (got_at x c arena size key).cache arena
    got_at_lem c key Landing.Missing q = q
    got_at_lem c key Landing.Nothing q = q
    got_at_lem c key (Landing.At i) q = by (passes arena i (len_at c i) key size)
      where
        by : (t : Bool) → Q (got_ready t c i).cache arena
        by true = touches c arena i q
        by false = q

    pub looked_keeps : (keys : List TileKey) (c : Cache) → Q c arena → Q (looked c arena size keys) arena
    unfolding looked got
    looked_keeps [] c q = q
    looked_keeps (key ∷ keys) c q = looked_keeps keys (got c arena size key).cache (got_at_lem c key (lands_on c key) q)

  -- ---- a match and a road

  match_after : (x : Ending) (c d : Cache) (arena : List ℕ) → Q c arena → Q d arena → Q (Gather.cache_after x c d) arena
  match_after Ending.All c d arena p q = q
  match_after (Ending.Need key) c d arena p q = q
  match_after Ending.Stale c d arena p q = p

  pub updated_keeps : (m : Matcher) (c : Cache) (arena : List ℕ) (h : Header) (fix : Point) (heading : Heading) → Q c arena
      → Q (Gather.updated m c arena h fix heading).cache arena
  unfolding Gather.updated
  updated_keeps m c arena h fix heading q = let r = Gather.run_over (look c arena h.tile) m h fix heading in
      match_after r.end c _ arena q (looked_keeps arena h.tile r.found c q)

  road_after : (x : Result RoadOutcome.Outcome Refusal) (c d : Cache) (arena : List ℕ) → Q c arena → Q d arena → Q (Predict.cache_after x c d) arena
  road_after (Ok (Roads.Road p)) c d arena s q = q
  road_after (Ok (Roads.Need key)) c d arena s q = q
  road_after (Ok Roads.Rematch) c d arena s q = q
  road_after (Err number) c d arena s q = either (eqb (number_of number) 12) c d arena s q

  pub predicted_keeps : (c : Cache) (arena : List ℕ) (h : Header) (m : Matched) (horizon : Float) (samples behind : List ℤ) → Q c arena
      → Q (Predict.predicted_in c arena h m horizon samples behind).predicted.cache arena
  unfolding Predict.predicted_in
  predicted_keeps c arena h m horizon samples behind q = let f = Predict.predict_over (look c arena h.tile) c.pages.count h m horizon samples behind in
      road_after f.answer c _ arena q (looked_keeps arena h.tile f.carried c q)

  pub update_keeps : (m : Matcher) (c : Cache) (arena : List ℕ) (h : Header) (fix : Point) (heading : Heading) → Q c arena
      → Q (Matching.update m c arena h fix heading).cache arena
  unfolding Matching.update
  update_keeps m c arena h fix heading q = by (call_ok m c h (length arena)) (is_point fix.lat fix.lon && heading_ok heading)
    where
      by : (s t : Bool)
          → Q (cond s (cond t (Gather.updated m c arena h fix heading) (refused m c Refusal.OutOfRange)) (refused m c Refusal.BadState)).cache arena
      by true true = updated_keeps m c arena h fix heading q
      by true false = q
      by false t = q

  pub predict_keeps : (c : Cache) (arena : List ℕ) (h : Header) (m : Matched) (horizon : Float) (samples behind : List ℤ) → Q c arena
      → Q (Predict.predict c arena h m horizon samples behind).predicted.cache arena
  unfolding Predict.predict
  predict_keeps c arena h m horizon samples behind q = by (cache_ok c h (length arena)) (in_grid h m.tile.key)
    where
      by : (s t : Bool)
          → Q (cond s
          (cond t (Predict.predicted_in c arena h m horizon samples behind) (Predict.untouched (Predict.refused c Refusal.OutsideGrid) samples behind))
          (Predict.untouched (Predict.refused c Refusal.BadState) samples behind)).predicted.cache arena
      by true true = predicted_keeps c arena h m horizon samples behind q
      by true false = q
      by false t = q

module _ (Q : Cache → List ℕ → Type 0)
    (touches : (c : Cache) (arena : List ℕ) (i : ℕ) → Q c arena → Q (touched c i) arena)
    (forgets : (c : Cache) (arena : List ℕ) (key : TileKey) → c.pages.count ≡ 0 → Q c arena → Q (forgot c key) arena)
    (pends : (c : Cache) (arena : List ℕ) (p : Pending) → pending_fits p c ≡ true → Q c arena → Q (with_pending c p) arena)
  where
    either_stepped : (t : Bool) (x y : Stepped) (arena : List ℕ) → Q x.engine.shared.cache arena → Q y.engine.shared.cache arena
        → Q (cond t x y).engine.shared.cache arena
    either_stepped true x y arena p q = p
    either_stepped false x y arena p q = q

    -- ---- a step

    module _ (e : Engine) (arena : List ℕ) (q : Q e.shared.cache arena) where
      match_ended : (f : Follower) (fix : Fix) (u : Updated) (x : Result MatchOutcome.Outcome Refusal) → Q u.cache arena
          → Q (match_ended_by x e f fix u).engine.shared.cache arena
      match_ended f fix u (Ok (Match.Found m)) p = p
      match_ended f fix u (Ok Match.Nothing) p = p
      match_ended f fix u (Ok (Match.Need key)) p = p
      match_ended f fix u (Err number) p = q

      road_ended : (f : Follower) (fix : Fix) (found : Matched) (r : Predict.After) (x : Result RoadOutcome.Outcome Refusal) → Q r.predicted.cache arena
          → Q (road_ended_by x e f fix found r).engine.shared.cache arena
      road_ended f fix found r (Ok (Roads.Road y)) p = p
      road_ended f fix found r (Ok (Roads.Need key)) p = p
      road_ended f fix found r (Ok Roads.Rematch) p = p
      road_ended f fix found r (Err number) p = either_stepped (eqb (number_of number) 10) _ _ arena p q

      settled_keeps : (n : Next) (key : TileKey) → next_step e.shared.cache key ≡ n → Q (settled e.shared.cache n key) arena
      settled_keeps (Next.Ready i) key r = touches e.shared.cache arena i q
      settled_keeps Next.NoPages key r = forgets e.shared.cache arena key (rw r at (next_is e.shared.cache key)) q
      settled_keeps Next.Missing key r = q
      settled_keeps Next.Entry key r = q
      settled_keeps (Next.Chunk l) key r = q

      steps_keep : {x : Task} {s : Stepped} → Steps e arena x s → Q s.engine.shared.cache arena
      unfolding arrived
      steps_keep (Ways.repeats o) = q
      steps_keep (Ways.fails failed) = q
      steps_keep (Ways.opens p offset len o f r) = pends e.shared.cache arena p f q
      steps_keep (Ways.spoils key i r s p) = q
      steps_keep (Ways.arrives key n r s f) = settled_keeps n key s
      steps_keep (Ways.rests f s d idle) = q
      steps_keep (Ways.leaves f w o) = q
      steps_keep (Ways.matches f key w k due) = match_ended (counted e.follower) f (match_of e arena f) (match_of e arena f).answer
          (updated_keeps Q touches _ e.shared.cache arena _ _ _ q)
      steps_keep (Ways.follows f key found w k c) =
          road_ended (counted e.follower) f found (road_at e arena found) (road_at e arena found).predicted.answer
          (predicted_keeps Q touches e.shared.cache arena _ found _ _ _ q)

      pub step_keeps : Q (Engines.step e arena).engine.shared.cache arena
      unfolding Engines.step
      step_keeps = by (engine_ok e (length arena)) refl
        where
          by : (t : Bool) → engine_ok e (length arena) ≡ t → Q (cond t (stepped e arena) (States.refused e Refusal.BadState)).engine.shared.cache arena
          by true ok = steps_keep (step_is e arena ok)
          by false ok = q

    -- ---- a delivery: what comes of a part of a tile is the cache's to say

    module _ (e : Engine) (arena : List ℕ) (failure : ℕ) (bs : List ℕ) (q : Q e.shared.cache arena)
        (part : (key : TileKey) → Brings e arena key failure bs
        → number_of_result (loaded e (told (brought e arena key failure bs))).answer ≡ number_of_result (Engines.deliver e arena failure bs).answer
        → Q (brought e arena key failure bs).cache (brought e arena key failure bs).arena) where
      loaded_keeps : {h : Header} {key : TileKey} {r : Loads.After} → Step e.shared.cache arena h key failure bs r → Q r.cache r.arena
          → Q (loaded e (told r)).engine.shared.cache r.arena
      unfolding arrived load_failed
      loaded_keeps (refuses n s) p = p
      loaded_keeps (knows r) p = p
      loaded_keeps (uses i r) p = p
      loaded_keeps (no_pages r) p = p
      loaded_keeps (fails n) p = either_stepped (ltb e.follower.failures 7) _ _ arena p p
      loaded_keeps (lacks came s) p = p
      loaded_keeps (begins came offset len slot r s v) p = p
      loaded_keeps (goes_on l came b) p = p
      loaded_keeps (readies l came b r) p = p
      loaded_keeps (spoils l came b r) p = p

      failed_keeps : (number : ℕ) → Q (header_failed e number).engine.shared.cache arena
      unfolding header_failed
      failed_keeps number =
          let none : Q (with_pending e.shared.cache Pending.Nothing) arena = pends e.shared.cache arena Pending.Nothing refl q in
          either_stepped (eqb number 1 && ltb e.follower.failures 7) _ _ arena none none

      delivers_keep : {r : After} → Delivers e arena failure bs r → number_of_result r.answer ≡ number_of_result (Engines.deliver e arena failure bs).answer
          → Q r.engine.shared.cache r.arena
      delivers_keep Ways.refuses same = q
      delivers_keep (Ways.loses number o s) same = failed_keeps number
      delivers_keep (Ways.parses o z s a) same = pends e.shared.cache arena Pending.Nothing refl q
      delivers_keep (Ways.brings key b) same =
          loaded_keeps (load_is e.shared.cache arena e.shared.header key failure bs) (part key b same)

      pub deliver_keeps : Q (Engines.deliver e arena failure bs).engine.shared.cache (Engines.deliver e arena failure bs).arena
      unfolding Engines.deliver
      deliver_keeps = by (engine_ok e (length arena)) refl
        where
          left : Bool → After
          left t = cond t (Delivered.delivered e arena failure bs) (Delivered.over (States.refused e Refusal.BadState) arena)

          by : (t : Bool) → engine_ok e (length arena) ≡ t → Q (left t).engine.shared.cache (left t).arena
          by true ok = delivers_keep (deliver_is e arena ok failure bs) (rw ok)
          by false ok = q
