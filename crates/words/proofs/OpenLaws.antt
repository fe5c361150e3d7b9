-- A step that leaves a fetch open does nothing else (`opens_step`), and one that opens none asks for no read (`closed_step`). The idea: by the open fetch, else by the plan; towards a
-- tile by the cache's next step, and where that makes no read the cache settles the tile (`need_settled`).
use Rattle.refusal.specs.Refusal.{number_of}
use Rattle.refusal.specs.declared.Refusal.{Refusal}
use Rattle.std.specs.Prelude.{Result, Ok, Err, Option, Some, None}
use Rattle.std.proofs.Common.{◌≡◌, ℕ, ◌+◌, Bool, true, false, cond, eqb, ltb, List, [], replicate, pos, sym, refl, ap, ◌∙◌, true≢false}
use Rattle.pack.specs.Grid.{key_of, in_grid}
use Rattle.pack.specs.declared.TileKey.{TileKey}
use Rattle.cache.specs.Calls.{load_tested}
use Rattle.cache.specs.Loads as Loads
use Rattle.cache.specs.Loads.{unread_step}
use Rattle.cache.specs.Lookups.{next_step, passes, len_at, touched}
use Rattle.cache.specs.declared.Cache.{Cache}
use Rattle.cache.specs.declared.Loaded.{Loaded}
use Rattle.cache.specs.declared.Pending.{Pending}
use Rattle.cache.specs.declared.Progress.{Progress}
use Rattle.cache.specs.declared.next.Next.{Next}
use Rattle.matcher.specs.declared.Matched.{Matched}
use Rattle.matcher.specs.declared.Updated.{Updated}
use Rattle.matcher.specs.declared.Outcome as MatchOutcome
use Rattle.matcher.specs.declared.Outcome.TheVariants as Found
use Rattle.matcher.specs.Gather.{updated}
use Rattle.predict.specs.Predict.{After, predicted_in}
use Rattle.predict.specs.declared.Outcome as RoadOutcome
use Rattle.predict.specs.declared.Outcome.TheVariants as Road
use Rattle.engine.specs.Calls.{step_from_by}
use Rattle.engine.specs.Deliver.{over, failing, arrived, failed_pack, load_failed, loaded_by}
use Rattle.engine.specs.Fixes.{place_of}
use Rattle.engine.specs.Plans.{of_road, of_fix, of_sight, of_need, of_state, plan_of, done_by}
use Rattle.engine.specs.State.{engine_ok, refused}
use Rattle.engine.specs.Steps.{request_of, opened, awaits_read, need_step, stepped_by, stepped}
use Rattle.engine.specs.Work.{counted, ended, rematch, match_ended_by, match_step, road_ended_by, road_step, may_ask}
use Rattle.engine.specs.declared.Due.{Due}
use Rattle.engine.specs.declared.Engine.{Engine}
use Rattle.engine.specs.declared.Fix.{Fix}
use Rattle.engine.specs.declared.Follower.{Follower}
use Rattle.engine.specs.declared.Phase.{Phase}
use Rattle.engine.specs.declared.Status.{Status}
use Rattle.engine.specs.declared.Stepped.{Stepped}
use Rattle.engine.specs.declared.plan.Plan.{Plan}
use Rattle.cache.proofs.FromLaws.{next_chunk, bytes_left}
use Rattle.cache.proofs.UnreadLaws.{unread_steps}
use Rattle.engine.proofs.NeedLaws.{need_settles}
use Rattle.engine.proofs.PlanLaws.{plan_step}
use Rattle.engine.proofs.SummaryLaws.{need_waits_entry, need_waits_chunk}
use Rattle.engine.proofs.TestedLaws.{state_in, need_in}
use Rattle.words.specs.Came.{settled}
use Rattle.words.specs.Opens.{opens_next, opens_plan, opens_by, opens}

-- ---- plans that are no tile's

abbrev is_need : Plan → Bool
is_need (Plan.Need key) = true
is_need Plan.Rest = false
is_need Plan.NoPack = false
is_need Plan.Header = false
is_need (Plan.Match fix) = false
is_need (Plan.Road fix found) = false
is_need Plan.Roadless = false
is_need (Plan.Off fix) = false

no_road : (m : Option Matched) (fix : Fix) → is_need (of_road m fix) ≡ false
no_road (Some found) fix = refl
no_road None fix = refl

no_due : (matching road : Bool) (m : Option Matched) (fix : Fix) → is_need (cond matching (Plan.Match fix) (cond road (of_road m fix) Plan.Rest)) ≡ false
no_due true road m fix = refl
no_due false true m fix = no_road m fix
no_due false false m fix = refl

no_fix : (k : Option TileKey) (fix : Fix) (due : Due) (m : Option Matched) → is_need (of_fix k fix due m) ≡ false
no_fix (Some key) fix due m = no_due due.matching due.road m fix
no_fix None fix due m = refl

module _ (e : Engine) where
  no_sight : (f : Option Fix) → is_need (of_sight f e.shared.header e.follower.due e.follower.matcher.current) ≡ false
  no_sight None = refl
  no_sight (Some fix) = no_fix (key_of e.shared.header fix.lat fix.lon) fix e.follower.due e.follower.matcher.current

  -- the planned tile is the needed one
  needed_by : (n : Option TileKey) (key : TileKey)
      → of_need n e.shared.header e.follower.sight.fix e.follower.due e.follower.matcher.current ≡ Plan.Need key → n ≡ Some key
  needed_by (Some k) key q = cc
  needed_by None key q = absurd (true≢false (sym (ap is_need q) ∙ no_sight e.follower.sight.fix))

  ready_by : (p : Phase) (key : TileKey)
      → of_state p e.shared.header e.follower.sight.fix e.follower.due e.follower.matcher.current ≡ Plan.Need key
      → (p ≡ Phase.Ready) × (e.follower.due.need ≡ Some key)
  ready_by Phase.Ready key q = (refl, needed_by e.follower.due.need key q)
  ready_by Phase.Failed key q = absurd (true≢false (sym (ap is_need q)))
  ready_by Phase.Unread key q = absurd (true≢false (sym (ap is_need q)))

  planned_inside : (size : ℕ) → engine_ok e size ≡ true → (key : TileKey) → plan_of e ≡ Plan.Need key → in_grid e.shared.header key ≡ true
  planned_inside size ok key q = let r = ready_by e.shared.phase key q in need_in e size ok key r.0 r.1

-- ---- a step that leaves a fetch open

abbrev pub is_open : Pending → Bool
is_open Pending.Nothing = false
is_open Pending.Header = true
is_open (Pending.Entry key) = true
is_open Pending.Chunk = true

-- one that opens none: none is open, and the plan opens none
module _ (e : Engine) where
  closed_by : (p : Pending) → is_open (opens_by p (plan_of e) e.shared.cache) ≡ false → (p ≡ Pending.Nothing) × (is_open (opens_plan (plan_of e) e.shared.cache) ≡ false)
  closed_by Pending.Nothing t = (refl, t)
  closed_by Pending.Header t = absurd (true≢false t)
  closed_by (Pending.Entry key) t = absurd (true≢false t)
  closed_by Pending.Chunk t = absurd (true≢false t)

  pub closed_pending : is_open (opens e) ≡ false → e.shared.cache.pending ≡ Pending.Nothing
  unfolding opens
  closed_pending t = (closed_by e.shared.cache.pending t).0

  pub closed_plan : is_open (opens e) ≡ false → is_open (opens_plan (plan_of e) e.shared.cache) ≡ false
  unfolding opens
  closed_plan t = (closed_by e.shared.cache.pending t).1

abbrev pub is_fetch : Result Status Refusal → Bool
is_fetch (Ok (Status.Fetch offset len)) = true
is_fetch (Ok Status.Idle) = false
is_fetch (Ok Status.Working) = false
is_fetch (Ok Status.NoPack) = false
is_fetch (Ok Status.OffMap) = false
is_fetch (Err number) = false

-- a delivery follows a fetch alone
pub no_fetch : (a : Result Status Refusal) (s : Stepped) (arena pack : List ℕ) → is_fetch a ≡ false → step_from_by a s arena pack ≡ over s arena
no_fetch (Ok (Status.Fetch offset len)) s arena pack q = absurd (true≢false q)
no_fetch (Ok Status.Idle) s arena pack q = refl
no_fetch (Ok Status.Working) s arena pack q = refl
no_fetch (Ok Status.NoPack) s arena pack q = refl
no_fetch (Ok Status.OffMap) s arena pack q = refl
no_fetch (Err number) s arena pack q = refl

module _ (e : Engine) (arena : List ℕ) (size : ℕ) (ok : engine_ok e size ≡ true) where
  abbrev c₁ : Cache
  c₁ = e.shared.cache

  next_opens : (key : TileKey) → plan_of e ≡ Plan.Need key → (n : Next) → next_step c₁ key ≡ n → is_open (opens_next n key) ≡ true
      → need_step e arena key ≡ opened e (opens_next n key)
  next_opens key q Next.Entry r t = need_waits_entry e arena key (planned_inside e size ok key q) r
  next_opens key q (Next.Chunk l) r t =
      need_waits_chunk e arena key (planned_inside e size ok key q) l r (bytes_left c₁ l (state_in e size ok) (next_chunk key l c₁ r))
  next_opens key q (Next.Ready i) r t = absurd (true≢false (sym t))
  next_opens key q Next.Missing r t = absurd (true≢false (sym t))
  next_opens key q Next.NoPages r t = absurd (true≢false (sym t))

  plan_opens : (p : Plan) → plan_of e ≡ p → is_open (opens_plan p c₁) ≡ true → done_by p e arena ≡ opened e (opens_plan p c₁)
  plan_opens Plan.Header q t = refl
  plan_opens (Plan.Need key) q t = next_opens key q (next_step c₁ key) refl t
  plan_opens Plan.Rest q t = absurd (true≢false (sym t))
  plan_opens Plan.NoPack q t = absurd (true≢false (sym t))
  plan_opens (Plan.Match fix) q t = absurd (true≢false (sym t))
  plan_opens (Plan.Road fix found) q t = absurd (true≢false (sym t))
  plan_opens Plan.Roadless q t = absurd (true≢false (sym t))
  plan_opens (Plan.Off fix) q t = absurd (true≢false (sym t))

  -- one that is open is repeated
  again : (p : Pending) → c₁.pending ≡ p → record { answer = request_of e.shared p; engine = e } ≡ opened e p
  again p r = ap (λ (x : Pending). record { answer = request_of e.shared p; engine = (opened e x).engine }) r

  pending_opens : (p : Pending) → c₁.pending ≡ p → is_open (opens_by p (plan_of e) c₁) ≡ true → stepped e arena ≡ opened e (opens_by p (plan_of e) c₁)
  unfolding stepped
  pending_opens Pending.Nothing r t = plan_step e arena r ∙ plan_opens (plan_of e) refl t
  pending_opens Pending.Header r t = ap (λ (p : Pending). stepped_by p e arena) r ∙ again Pending.Header r
  pending_opens (Pending.Entry key) r t = ap (λ (p : Pending). stepped_by p e arena) r ∙ again (Pending.Entry key) r
  pending_opens Pending.Chunk r t = ap (λ (p : Pending). stepped_by p e arena) r ∙ again Pending.Chunk r

  pub opens_step : is_open (opens e) ≡ true → stepped e arena ≡ opened e (opens e)
  unfolding opens
  opens_step t = pending_opens c₁.pending refl t

  -- ---- a step that opens none

  closed_match : (a : Result MatchOutcome.Outcome Refusal) (f : Follower) (fix : Fix) (u : Updated) → is_fetch (match_ended_by a e f fix u).answer ≡ false
  closed_match (Ok (Found.Found m)) f fix u = refl
  closed_match (Ok Found.Nothing) f fix u = refl
  closed_match (Ok (Found.Need key)) f fix u = either_idle (may_ask f.due u.cache.pages.count)
    where
      either_idle : (b : Bool) → is_fetch (cond b (Ok Status.Working) (Ok Status.Idle)) ≡ false
      either_idle true = refl
      either_idle false = refl
  closed_match (Err refusal) f fix u = refl

  closed_road : (a : Result RoadOutcome.Outcome Refusal) (f : Follower) (fix : Fix) (m : Matched) (x : After) → is_fetch (road_ended_by a e f fix m x).answer ≡ false
  closed_road (Ok (Road.Road r)) f fix m x = refl
  closed_road (Ok (Road.Need key)) f fix m x = refl
  closed_road (Ok Road.Rematch) f fix m x = refl
  closed_road (Err refusal) f fix m x = by (eqb (number_of refusal) 10)
    where
      by : (b : Bool) → is_fetch (cond b (ended e x.predicted.cache (rematch f) (Ok Status.Working)) (refused e refusal)).answer ≡ false
      by true = refl
      by false = refl

  closed_load : (a : Result Progress Refusal) (c : Cache) → is_fetch (loaded_by a e c).answer ≡ false
  unfolding arrived load_failed
  closed_load (Ok Progress.Done) c = refl
  closed_load (Ok Progress.More) c = refl
  closed_load (Ok (Progress.Failed number)) c = by (ltb e.follower.failures 7) (counted e.follower)
    where
      by : (b : Bool) (f : Follower) → is_fetch (cond b (ended e c (failing f (f.failures + 1)) (Ok Status.Working)) (failed_pack e c (failing f 8))).answer ≡ false
      by true f = refl
      by false f = refl
  closed_load (Err number) c = refl

  -- towards a tile: the cache asks for no read
  closed_next : (key : TileKey) (n : Next) → is_open (opens_next n key) ≡ false → awaits_read (unread_step c₁ n arena key e.shared.header.tile).answer ≡ false
  closed_next key (Next.Ready i) t = by (passes arena i (len_at c₁ i) key e.shared.header.tile)
    where
      by : (b : Bool) → awaits_read (cond b (Loads.done (touched c₁ i)) (Loads.refused c₁ Refusal.BadState)).answer ≡ false
      by true = refl
      by false = refl
  closed_next key Next.Missing t = refl
  closed_next key Next.NoPages t = refl
  closed_next key Next.Entry t = absurd (true≢false t)
  closed_next key (Next.Chunk l) t = absurd (true≢false t)

  pub need_settled : (key : TileKey) → plan_of e ≡ Plan.Need key → is_open (opens_next (next_step c₁ key) key) ≡ false → need_step e arena key ≡ settled e arena key
  need_settled key q t =
      let inside = planned_inside e size ok key q in
      sym
      (need_settles e arena key _ refl
      (ap (λ (l : Loaded). awaits_read l.answer) (unread_steps c₁ arena e.shared.header key inside) ∙ closed_next key (next_step c₁ key) t))

  plan_closed : (p : Plan) → plan_of e ≡ p → is_open (opens_plan p c₁) ≡ false → is_fetch (done_by p e arena).answer ≡ false
  unfolding match_step road_step
  plan_closed Plan.Header q t = absurd (true≢false t)
  plan_closed (Plan.Need key) q t =
      let l = Loads.told (load_tested c₁ arena e.shared.header key 0 []) in
      ap (λ (s : Stepped). is_fetch s.answer) (need_settled key q t) ∙ closed_load l.answer l.cache
  plan_closed Plan.Rest q t = refl
  plan_closed Plan.NoPack q t = refl
  plan_closed (Plan.Match fix) q t =
      let u = updated e.follower.matcher c₁ arena e.shared.header (place_of fix) e.follower.sight.heading in
      closed_match u.answer (counted e.follower) fix u
  plan_closed (Plan.Road fix found) q t =
      let x = predicted_in c₁ arena e.shared.header found e.follower.horizon_m (replicate 501 (pos 0)) (replicate 11 (pos 0)) in
      closed_road x.predicted.answer (counted e.follower) fix found x
  plan_closed Plan.Roadless q t = refl
  plan_closed (Plan.Off fix) q t = refl

  pub closed_step : is_open (opens e) ≡ false → is_fetch (stepped e arena).answer ≡ false
  closed_step t = ap (λ (s : Stepped). is_fetch s.answer) (plan_step e arena (closed_pending e t)) ∙ plan_closed (plan_of e) refl (closed_plan e t)
