-- What a step and a delivery leave beside the cache: phase, header, and of the follower what it sees, what it matches and what it was made with; a
-- delivery also what is published. By the ways that a call goes.
use Rattle.refusal.specs.Refusal.{number_of}
use Rattle.refusal.specs.declared.Refusal.{Refusal}
use Rattle.std.specs.Prelude.{Option, Some, None, Result, Err, Ok}
use Prim.Native.Nat.{ℕ}
use mathlib.Core.Path.{◌≡◌, refl, ◌∙◌}
use mathlib.Core.Bool.{Bool, true, false, ◌&&◌, cond}
use mathlib.Core.List.{List}
use mathlib.Core.Logic.{inl}
use lib.Dec.{eqb, ltb}
use lib.ListN.{length}
use Rattle.pack.specs.Sector.{parse}
use Rattle.pack.specs.declared.Header.{Header}
use Rattle.pack.specs.declared.TileKey.{TileKey}
use Rattle.cache.specs.declared.Cache.{Cache}
use Rattle.cache.specs.declared.Progress.{Progress}
use Rattle.matcher.specs.declared.Outcome as MatchOutcome
use Rattle.matcher.specs.declared.Outcome.TheVariants as Match
use Rattle.matcher.specs.declared.Updated.{Updated}
use Rattle.predict.specs.Predict as Predict
use Rattle.predict.specs.declared.Outcome as RoadOutcome
use Rattle.predict.specs.declared.Outcome.TheVariants as Roads
use Rattle.matcher.specs.declared.Matched.{Matched}
use Rattle.matcher.specs.declared.Matcher.{Matcher}
use Rattle.engine.specs.declared.Fix.{Fix}
use Rattle.engine.specs.declared.Follower.{Follower}
use Rattle.engine.specs.State.{refused, engine_ok}
use Rattle.engine.specs.Steps.{stepped}
use Rattle.engine.specs.Work.{counted, ended, off_map, may_ask, matched_by, matched, match_asks, match_ended_by, rematch, road_asks, road_ended_by, published}
use Rattle.engine.specs.Deliver as Delivered
use Rattle.engine.specs.Deliver.{After, over, sector_of, arrived, header_failed, load_failed, loaded_by}
use Rattle.engine.specs.Calls as Engines
use Rattle.engine.specs.declared.Engine.{Engine}
use Rattle.engine.specs.declared.Phase.{Phase}
use Rattle.engine.specs.declared.Status.{Status}
use Rattle.engine.specs.declared.Stepped.{Stepped}
use Rattle.direct.specs.Finished.{Task, match_of, road_at}
use Rattle.direct.specs.Claims.{open_read}
use Rattle.engine_states.proofs.Ways as Ways
use Rattle.engine_states.proofs.Ways.{Same, Rests, Steps, brought, Delivers, step_is, deliver_is}

-- ---- followers

pub same_self : (f : Follower) → Same f f
same_self f = record { sight = refl; matcher = refl; horizon = refl; ahead = refl }

pub same_then : {f g h : Follower} → Same f g → Same g h → Same f h
same_then p q = record {
  sight = q.sight ∙ p.sight;
  matcher = q.matcher ∙ p.matcher;
  horizon = q.horizon ∙ p.horizon;
  ahead = q.ahead ∙ p.ahead;
}

either_same : (f : Follower) (t : Bool) (x y : Follower) → Same f x → Same f y → Same f (cond t x y)
either_same f true x y p q = p
either_same f false x y p q = q

-- a tile that a match asks for changes nothing of it
pub match_asks_lem : (f : Follower) (pages : ℕ) (key : TileKey) → Same f (match_asks f pages key)
match_asks_lem f pages key =
    either_same f (may_ask f.due pages) _ _ (record { sight = refl; matcher = refl; horizon = refl; ahead = refl })
    (record { sight = refl; matcher = refl; horizon = refl; ahead = refl })

-- the follower after a match that was finished, or a road that asked for a tile
pub record Holds (f : Follower) (m : Matcher) (g : Follower) : Type 0 where
  pub sight : g.sight ≡ f.sight
  pub matcher : g.matcher ≡ m
  pub horizon : g.horizon_m ≡ f.horizon_m

pub road_asks_lem : (f : Follower) (pages : ℕ) (fix : Fix) (found : Matched) (key : TileKey) → Holds f f.matcher (road_asks f pages fix found key)
unfolding published
road_asks_lem f pages fix found key =
    by (may_ask f.due pages) _ _ (record { sight = refl; matcher = refl; horizon = refl }) (record { sight = refl; matcher = refl; horizon = refl })
  where
    by : (t : Bool) (x y : Follower) → Holds f f.matcher x → Holds f f.matcher y → Holds f f.matcher (cond t x y)
    by true x y p q = p
    by false x y p q = q

pub match_holds : (f : Follower) (m : Matcher) (fix : Fix) → Holds f m (matched f m fix)
unfolding matched
match_holds f m fix = by m.current
  where
    by : (x : Option Matched) → Holds f m (matched_by x f m fix)
    by None = record { sight = refl; matcher = refl; horizon = refl }
    by (Some found) = record { sight = refl; matcher = refl; horizon = refl }

-- ---- what a step leaves beside the cache

pub record Beside (e n : Engine) : Type 0 where
  pub phase : n.shared.phase ≡ e.shared.phase
  pub header : n.shared.header ≡ e.shared.header
  pub sight : n.follower.sight ≡ e.follower.sight
  pub horizon : n.follower.horizon_m ≡ e.follower.horizon_m

module _ (e : Engine) where
  abbrev f₁ : Follower
  f₁ = counted e.follower

  beside_same : Beside e e
  beside_same = record { phase = refl; header = refl; sight = refl; horizon = refl }

  ended_beside : (c : Cache) (f : Follower) (a : Result Status Refusal) → f.sight ≡ e.follower.sight → f.horizon_m ≡ e.follower.horizon_m
      → Beside e (ended e c f a).engine
  ended_beside c f a p q = record { phase = refl; header = refl; sight = p; horizon = q }

  either_beside : (t : Bool) (x y : Stepped) → Beside e x.engine → Beside e y.engine → Beside e (cond t x y).engine
  either_beside true x y p q = p
  either_beside false x y p q = q

  match_beside : (x : Result MatchOutcome.Outcome Refusal) (fix : Fix) (u : Updated) → Beside e (match_ended_by x e f₁ fix u).engine
  match_beside (Ok (Match.Found m)) fix u = let r = match_holds f₁ u.matcher fix in ended_beside u.cache _ (Ok Status.Working) r.sight r.horizon
  match_beside (Ok Match.Nothing) fix u = let r = match_holds f₁ u.matcher fix in ended_beside u.cache _ (Ok Status.Working) r.sight r.horizon
  match_beside (Ok (Match.Need key)) fix u = let r = match_asks_lem f₁ u.cache.pages.count key in ended_beside u.cache _ (Ok Status.Working) r.sight r.horizon
  match_beside (Err number) fix u = beside_same

  road_beside : (x : Result RoadOutcome.Outcome Refusal) (fix : Fix) (found : Matched) (r : Predict.After) → Beside e (road_ended_by x e f₁ fix found r).engine
  unfolding published
  road_beside (Ok (Roads.Road p)) fix found r = ended_beside r.predicted.cache _ (Ok Status.Working) refl refl
  road_beside (Ok (Roads.Need key)) fix found r =
      let s = road_asks_lem f₁ r.predicted.cache.pages.count fix found key in ended_beside r.predicted.cache _ (Ok Status.Working) s.sight s.horizon
  road_beside (Ok Roads.Rematch) fix found r = ended_beside r.predicted.cache _ (Ok Status.Working) refl refl
  road_beside (Err number) fix found r =
      either_beside (eqb (number_of number) 10) _ _ (ended_beside r.predicted.cache (rematch f₁) (Ok Status.Working) refl refl) beside_same

  pub steps_beside : {arena : List ℕ} {x : Task} {s : Stepped} → Steps e arena x s → Beside e s.engine
  unfolding arrived off_map
  steps_beside (Ways.repeats o) = beside_same
  steps_beside (Ways.fails failed) = beside_same
  steps_beside (Ways.opens p offset len o f r) = record { phase = refl; header = refl; sight = refl; horizon = refl }
  steps_beside (Ways.spoils key i r s p) = beside_same
  steps_beside (Ways.arrives key n r s f) = record { phase = refl; header = refl; sight = refl; horizon = refl }
  steps_beside (Ways.rests f s d idle) = ended_beside e.shared.cache f (Ok Status.Idle) s.sight s.horizon
  steps_beside (Ways.leaves f w o) = record { phase = refl; header = refl; sight = refl; horizon = refl }
  steps_beside {arena} (Ways.matches f key w k due) = match_beside (match_of e arena f).answer f (match_of e arena f)
  steps_beside {arena} (Ways.follows f key found w k c) = road_beside (road_at e arena found).predicted.answer f found (road_at e arena found)

  pub step_beside : (arena : List ℕ) → Beside e (Engines.step e arena).engine
  unfolding Engines.step
  step_beside arena = by (engine_ok e (length arena)) refl
    where
      by : (t : Bool) → engine_ok e (length arena) ≡ t → Beside e (cond t (stepped e arena) (refused e Refusal.BadState)).engine
      by true ok = steps_beside (step_is e arena ok)
      by false ok = beside_same

-- ---- what a delivery leaves beside the cache

-- the answer of a delivery, and the phase and header that it leaves: as they were; failed; or the header that came
pub data Heads (e : Engine) (failure : ℕ) (bs : List ℕ) : Result Status Refusal → Phase → Header → Type 0 where
  kept : {a : Result Status Refusal} → Heads e failure bs a e.shared.phase e.shared.header
  unread : {a : Result Status Refusal} → Heads e failure bs a Phase.Unread e.shared.header
  failed : {a : Result Status Refusal} → Heads e failure bs a Phase.Failed e.shared.header
  came : {h : Header} → open_read e ≡ Ok (Status.Fetch 0 512) → failure ≡ 0 → length bs ≡ 512 → parse (sector_of bs) ≡ Ok h
      → Heads e failure bs (Ok Status.Working) Phase.Ready h

pub record Left (e : Engine) (failure : ℕ) (bs : List ℕ) (a : Result Status Refusal) (n : Engine) : Type 0 where
  pub heads : Heads e failure bs a n.shared.phase n.shared.header
  pub follower : Same e.follower n.follower
  pub due : Rests e.follower n.follower

module _ (e : Engine) (failure : ℕ) (bs : List ℕ) where
  left_same : {a : Result Status Refusal} → Left e failure bs a e
  left_same = record { heads = kept; follower = same_self e.follower; due = record { matching = refl; road = inl refl } }

  either_left : (t : Bool) (x y : Stepped) → Left e failure bs x.answer x.engine → Left e failure bs y.answer y.engine
      → Left e failure bs (cond t x y).answer (cond t x y).engine
  either_left true x y p q = p
  either_left false x y p q = q

  same_parts : {f : Follower} → f.sight ≡ e.follower.sight → f.matcher ≡ e.follower.matcher → f.horizon_m ≡ e.follower.horizon_m
      → f.ahead ≡ e.follower.ahead → Same e.follower f
  same_parts p q r s = record { sight = p; matcher = q; horizon = r; ahead = s }

  left_parts : {a : Result Status Refusal} {n : Engine} → Heads e failure bs a n.shared.phase n.shared.header → Same e.follower n.follower
      → n.follower.due.matching ≡ e.follower.due.matching → n.follower.due.road ≡ e.follower.due.road → Left e failure bs a n
  left_parts h s m r = record { heads = h; follower = s; due = record { matching = m; road = inl r } }

  loaded_left : (p : Result Progress Refusal) (c : Cache) → Left e failure bs (loaded_by p e c).answer (loaded_by p e c).engine
  unfolding arrived load_failed
  loaded_left (Ok Progress.Done) c = left_parts kept (same_parts refl refl refl refl) refl refl
  loaded_left (Ok Progress.More) c = left_parts kept (same_parts refl refl refl refl) refl refl
  loaded_left (Ok (Progress.Failed number)) c =
      either_left (ltb e.follower.failures 7) _ _ (left_parts kept (same_parts refl refl refl refl) refl refl)
      (left_parts failed (same_parts refl refl refl refl) refl refl)
  loaded_left (Err number) c = left_same

  delivers_left : {arena : List ℕ} {r : After} → Delivers e arena failure bs r → Left e failure bs r.answer r.engine
  unfolding header_failed
  delivers_left Ways.refuses = left_same
  delivers_left (Ways.loses number o s) =
      either_left (eqb number 1 && ltb e.follower.failures 7) _ _ (left_parts unread (same_parts refl refl refl refl) refl refl)
      (left_parts failed (same_parts refl refl refl refl) refl refl)
  delivers_left (Ways.parses o z s a) = left_parts (came o z s a) (same_parts refl refl refl refl) refl refl
  delivers_left {arena} (Ways.brings key b) = loaded_left (brought e arena key failure bs).answer (brought e arena key failure bs).cache

  pub deliver_left : (arena : List ℕ) → Left e failure bs (Engines.deliver e arena failure bs).answer (Engines.deliver e arena failure bs).engine
  unfolding Engines.deliver
  deliver_left arena = by (engine_ok e (length arena)) refl
    where
      left : Bool → After
      left t = cond t (Delivered.delivered e arena failure bs) (over (refused e Refusal.BadState) arena)

      by : (t : Bool) → engine_ok e (length arena) ≡ t → Left e failure bs (left t).answer (left t).engine
      by true ok = delivers_left (deliver_is e arena ok failure bs)
      by false ok = left_same
