-- The open fetch: a step repeats it and changes nothing (`open_repeats`, `fetch_repeats`), opening it changes nothing else
-- (`opening_is_pending`), so that reset withdraws it (`reset_withdraws`), and a fix or a loss of fixes acts the same before its delivery as
-- after it (`fix_commutes`, `lost_commutes`). The idea: of all that a step does only two branches answer Fetch, and both say what they open;
-- what a fix changes in a follower and what a delivery changes lie side by side (`Aside`).
use Rattle.cache.specs.declared.Loading.{Loading}
use Rattle.refusal.specs.Refusal.{number_of}
use Rattle.refusal.specs.declared.Refusal.{Refusal}
use Rattle.std.specs.Prelude.{Result, Ok, Err, Option, Some, None}
use Rattle.std.proofs.Common.{◌≡◌, ℕ, Bool, true, false, cond, ◌&&◌, eqb, ltb, List, [], length, replicate, pos, sym, refl, ap, ◌∙◌, true≢false}
use Rattle.pack.specs.Grid.{key_of}
use Rattle.pack.specs.Sector.{parse}
use Rattle.pack.specs.declared.Header.{Header}
use Rattle.pack.specs.declared.TileKey.{TileKey}
use Rattle.cache.specs.Keys.{same_key}
use Rattle.cache.specs.State.{cleared}
use Rattle.cache.specs.declared.Cache.{Cache}
use Rattle.cache.specs.declared.Pending.{Pending}
use Rattle.cache.specs.declared.Loaded.{Loaded}
use Rattle.cache.specs.Loads as Loads
use Rattle.cache.specs.Calls.{load_tested}
use Rattle.cache.specs.declared.Progress.{Progress}
use Rattle.matcher.specs.declared.Matched.{Matched}
use Rattle.matcher.specs.Gather.{updated}
use Rattle.matcher.specs.declared.Outcome as MatchOutcome
use Rattle.matcher.specs.declared.Outcome.TheVariants as Found
use Rattle.matcher.specs.declared.Updated.{Updated}
use Rattle.predict.specs.Predict.{After, predicted_in}
use Rattle.predict.specs.declared.Outcome as RoadOutcome
use Rattle.predict.specs.declared.Outcome.TheVariants as Road
use Rattle.engine.specs.Fixes.{place_of, is_same_place}
use Rattle.engine.specs.Follow.{fixed, lost}
use Rattle.engine.specs.declared.Fix.{Fix}
use Rattle.engine.specs.declared.Follower.{Follower}
use Rattle.engine.specs.declared.Engine.{Engine}
use Rattle.engine.specs.declared.Phase.{Phase}
use Rattle.engine.specs.declared.Shared.{Shared}
use Rattle.engine.specs.declared.Status.{Status}
use Rattle.engine.specs.declared.Stepped.{Stepped}
use Rattle.engine.specs.State.{forgotten}
use Rattle.engine.specs.Work.{may_ask, match_ended_by, match_step, road_ended_by, road_step, road_due_by, in_grid_step, at_fix_by, at_fix, worked_by, worked, counted}
use Rattle.engine.specs.Deliver as Deliver
use Rattle.engine.specs.Deliver.{arrived, header_failed, header_parsed, header_came, sector_of, fits_header, over, load_failed, loaded, loaded_by, part_came, need_came_by, need_came, delivered_by, delivered}
use Rattle.engine.specs.Steps.{with_pending, request_of, opened, awaits_read, pending_for, need_step, ready_by, started_by, started, repeated, stepped_by, stepped}

-- ---- while it is open

abbrev pub is_open : Pending → Bool
is_open Pending.Nothing = false
is_open Pending.Header = true
is_open (Pending.Entry key) = true
is_open Pending.Chunk = true

repeats_by : (p : Pending) (e : Engine) (arena : List ℕ) → is_open p ≡ true → stepped_by p e arena ≡ repeated e p
repeats_by Pending.Nothing e arena o = absurd (true≢false (sym o))
repeats_by Pending.Header e arena o = refl
repeats_by (Pending.Entry key) e arena o = refl
repeats_by Pending.Chunk e arena o = refl

-- whatever the arena is, the answer is the read worked out from the state, and the engine is as it was
pub open_repeats : (e : Engine) (arena : List ℕ) → is_open e.shared.cache.pending ≡ true
    → stepped e arena ≡ record { answer = request_of e.shared e.shared.cache.pending; engine = e }
unfolding stepped
open_repeats e arena o = repeats_by e.shared.cache.pending e arena o

-- ---- a step that opens one

abbrev is_fetch : Result Status Refusal → Bool
is_fetch (Ok (Status.Fetch offset len)) = true
is_fetch (Ok Status.Idle) = false
is_fetch (Ok Status.Working) = false
is_fetch (Ok Status.NoPack) = false
is_fetch (Ok Status.OffMap) = false
is_fetch (Err number) = false

-- the engine with a fetch open, all else as it was
abbrev pub with_open : Engine → Pending → Engine
with_open e p = record {
  shared = record { phase = e.shared.phase; header = e.shared.header; cache = with_pending e.shared.cache p };
  follower = e.follower;
}

-- which one it opened: the engine has that open and nothing else changed, and the answer is its read
pub record Opening (e : Engine) (s : Stepped) : Type 0 where
  pub pending : Pending
  pub opens : is_open pending ≡ true
  pub engine : s.engine ≡ with_open e pending
  pub asks : s.answer ≡ request_of (with_open e pending).shared pending

abbrev Opens : Engine → Stepped → Type 0
Opens e s = is_fetch s.answer ≡ true → Opening e s

-- ---- the work of a step opens none

asks_none : (t : Bool) → is_fetch (cond t (Ok Status.Working) (Ok Status.Idle)) ≡ false
asks_none true = refl
asks_none false = refl

either_none : (t : Bool) (x y : Stepped) → is_fetch x.answer ≡ false → is_fetch y.answer ≡ false → is_fetch (cond t x y).answer ≡ false
either_none true x y p q = p
either_none false x y p q = q

module _ (e : Engine) (arena : List ℕ) (f : Follower) (fix : Fix) where
  match_none : (x : Result MatchOutcome.Outcome Refusal) (u : Updated) → is_fetch (match_ended_by x e f fix u).answer ≡ false
  match_none (Ok (Found.Found m)) u = refl
  match_none (Ok Found.Nothing) u = refl
  match_none (Ok (Found.Need key)) u = asks_none (may_ask f.due u.cache.pages.count)
  match_none (Err refusal) u = refl

  road_none : (r : Result RoadOutcome.Outcome Refusal) (found : Matched) (x : After) → is_fetch (road_ended_by r e f fix found x).answer ≡ false
  road_none (Ok (Road.Road r)) found x = refl
  road_none (Ok (Road.Need key)) found x = refl
  road_none (Ok Road.Rematch) found x = refl
  road_none (Err refusal) found x = either_none (eqb (number_of refusal) 10) _ _ refl refl

  due_none : (m : Option Matched) → is_fetch (road_due_by m e arena f fix).answer ≡ false
  unfolding road_step
  due_none (Some found) =
      let x = predicted_in e.shared.cache arena e.shared.header found f.horizon_m (replicate 501 (pos 0)) (replicate 11 (pos 0)) in
      road_none x.predicted.answer found x
  due_none None = refl

  grid_none : is_fetch (in_grid_step e arena f fix).answer ≡ false
  unfolding match_step
  grid_none =
      let u = updated f.matcher e.shared.cache arena e.shared.header (place_of fix) f.sight.heading in
      either_none f.due.matching _ _ (match_none u.answer u)
      (either_none f.due.road _ _ (due_none f.matcher.current) refl)

  fix_none : (k : Option TileKey) → is_fetch (at_fix_by k e arena f fix).answer ≡ false
  fix_none (Some key) = grid_none
  fix_none None = refl

work_none : (m : Option Fix) (e : Engine) (arena : List ℕ) (f : Follower) → is_fetch (worked_by m e arena f).answer ≡ false
unfolding at_fix
work_none None e arena f = refl
work_none (Some fix) e arena f = fix_none e arena f fix (key_of e.shared.header fix.lat fix.lon)

worked_opens : (e : Engine) (arena : List ℕ) → Opens e (worked e arena)
unfolding worked
worked_opens e arena o = absurd (true≢false (sym o ∙ work_none e.follower.sight.fix e arena (counted e.follower)))

-- ---- a step towards a tile says which it opens

-- the read doesn't go by which fetch is open
request_same : (e : Engine) (p q : Pending) → request_of e.shared p ≡ request_of (with_open e q).shared p
request_same e Pending.Nothing q = refl
request_same e Pending.Header q = refl
request_same e (Pending.Entry key) q = refl
request_same e Pending.Chunk q = refl

pending_open : (x : Option Loading) (key : TileKey) → is_open (pending_for x key) ≡ true
pending_open None key = refl
pending_open (Some l) key = by (same_key l.key key)
  where
    by : (t : Bool) → is_open (cond t Pending.Chunk (Pending.Entry key)) ≡ true
    by true = refl
    by false = refl

-- a tile that is settled opens none
loaded_none : (p : Result Progress Refusal) (e : Engine) (c : Cache) → is_fetch (loaded_by p e c).answer ≡ false
unfolding arrived load_failed
loaded_none (Ok Progress.Done) e c = refl
loaded_none (Ok Progress.More) e c = refl
loaded_none (Ok (Progress.Failed number)) e c = either_none (ltb e.follower.failures 7) _ _ refl refl
loaded_none (Err number) e c = refl

need_opens : (e : Engine) (arena : List ℕ) (key : TileKey) → Opens e (need_step e arena key)
unfolding need_step
need_opens e arena key = by (awaits_read l.answer)
  where
    l : Loaded
    l = Loads.told (load_tested e.shared.cache arena e.shared.header key 0 [])

    p : Pending
    p = pending_for e.shared.cache.loading key

    by : (t : Bool) → Opens e (cond t (opened e p) (loaded e l))
    by true o = record { pending = p; opens = pending_open e.shared.cache.loading key; engine = refl; asks = request_same e p p }
    by false o = absurd (true≢false (sym o ∙ loaded_none l.answer e l.cache))

ready_opens : (m : Option TileKey) (e : Engine) (arena : List ℕ) → Opens e (ready_by m e arena)
ready_opens (Some key) e arena o = need_opens e arena key o
ready_opens None e arena o = worked_opens e arena o

started_opens : (p : Phase) (e : Engine) (arena : List ℕ) → Opens e (started_by p e arena)
started_opens Phase.Failed e arena o = absurd (true≢false (sym o))
started_opens Phase.Unread e arena o = record { pending = Pending.Header; opens = refl; engine = refl; asks = refl }
started_opens Phase.Ready e arena o = ready_opens e.follower.due.need e arena o

stepped_opens : (p : Pending) (e : Engine) (arena : List ℕ) → p ≡ Pending.Nothing → Opens e (stepped_by p e arena)
unfolding started
stepped_opens Pending.Nothing e arena q o = started_opens e.shared.phase e arena o
stepped_opens Pending.Header e arena q o = absurd (true≢false (ap is_open q))
stepped_opens (Pending.Entry key) e arena q o = absurd (true≢false (ap is_open q))
stepped_opens Pending.Chunk e arena q o = absurd (true≢false (ap is_open q))

-- ---- no fetch is open, and a step answers one

module _ (e : Engine) (arena : List ℕ) {offset len : ℕ}
    (none : e.shared.cache.pending ≡ Pending.Nothing)
    (asked : (stepped e arena).answer ≡ Ok (Status.Fetch offset len)) where
  -- nothing but `pending` changes
  pub opening_is_pending : Opening e (stepped e arena)
  unfolding stepped
  opening_is_pending = stepped_opens e.shared.cache.pending e arena none (ap is_fetch asked)

  -- reset after the step is reset before it
  pub reset_withdraws : forgotten (stepped e arena).engine ≡ forgotten e
  unfolding forgotten cleared
  reset_withdraws = ap forgotten opening_is_pending.engine

  -- the next step is the same, over whatever arena
  pub fetch_repeats : (other : List ℕ) → stepped (stepped e arena).engine other ≡ stepped e arena
  fetch_repeats other =
      let o = opening_is_pending in
      ap (λ x. stepped x other) o.engine ∙ open_repeats (with_open e o.pending) other o.opens
      ∙ rw (← o.asks, ← o.engine)

-- ---- a change of the follower beside a delivery

-- what a delivery sets in a follower
abbrev with_parts : Follower → Option TileKey → ℕ → ℕ → Follower
with_parts f need failures steps = record {
  sight = f.sight;
  matcher = f.matcher;
  due = record { matching = f.due.matching; road = f.due.road; last_road = f.due.last_road; need = need; reloads = f.due.reloads };
  ahead = f.ahead;
  failures = failures;
  horizon_m = f.horizon_m;
  steps = steps;
}

-- a change that neither reads nor sets those parts
abbrev Aside : (Follower → Follower) → Type 0
Aside g = (f : Follower) (need : Option TileKey) (failures steps : ℕ) → with_parts (g f) need failures steps ≡ g (with_parts f need failures steps)

-- the engine with its follower changed
abbrev pub follows : (Follower → Follower) → Engine → Engine
follows g e = record { shared = e.shared; follower = g e.follower }

abbrev left : Result Status Refusal → Shared → Follower → Stepped
left answer s f = record { answer = answer; engine = record { shared = s; follower = f } }

abbrev then : (Follower → Follower) → Stepped → Stepped
then g s = record { answer = s.answer; engine = follows g s.engine }

-- the same after a delivery; answer and arena stay
abbrev pub after : (Follower → Follower) → Deliver.After → Deliver.After
after g x = record { answer = x.answer; engine = follows g x.engine; arena = x.arena }

module _ (g : Follower → Follower) (aside : Aside g) where
  abbrev split : Engine → Engine
  split e =
      let f = e.follower in record { shared = e.shared; follower = with_parts (g f) f.due.need f.failures f.steps }

  -- the parts are those from before the change
  parts : (e : Engine) → follows g e ≡ split e
  parts e =
      let f = e.follower in
      ap (λ (x : Follower). record { shared = e.shared; follower = x }) (sym (aside f f.due.need f.failures f.steps))

  set_then : (answer : Result Status Refusal) (s : Shared) (f : Follower) (need : Option TileKey) (failures steps : ℕ)
      → left answer s (with_parts (g f) need failures steps) ≡ then g (left answer s (with_parts f need failures steps))
  set_then answer s f need failures steps = ap (left answer s) (aside f need failures steps)

  either_then : (t : Bool) {a b x y : Stepped} → a ≡ then g x → b ≡ then g y → cond t a b ≡ then g (cond t x y)
  either_then true p q = p
  either_then false p q = q

  either_after : (t : Bool) {a b x y : Deliver.After} → a ≡ after g x → b ≡ after g y → cond t a b ≡ after g (cond t x y)
  either_after true p q = p
  either_after false p q = q

  -- ---- the header

  header_failed-then : (e : Engine) (failure : ℕ) → header_failed (follows g e) failure ≡ then g (header_failed e failure)
  unfolding header_failed
  header_failed-then e failure =
      ap (λ (x : Engine). header_failed x failure) (parts e)
      ∙ either_then (eqb failure 1 && ltb e.follower.failures 7) (set_then _ _ e.follower _ _ _) (set_then _ _ e.follower _ _ _)

  parsed_then : (parsed : Result Header Refusal) (e : Engine) → header_parsed parsed (follows g e) ≡ then g (header_parsed parsed e)
  parsed_then (Ok h) e = ap (λ (x : Engine). header_parsed (Ok h) x) (parts e) ∙ set_then _ _ e.follower _ _ _
  parsed_then (Err refusal) e = header_failed-then e (number_of refusal)

  header_then : (e : Engine) (failure : ℕ) (bs : List ℕ) → header_came (follows g e) failure bs ≡ then g (header_came e failure bs)
  unfolding header_came
  header_then e failure bs =
      either_then (eqb failure 0) (parsed_then (parse (sector_of bs)) e) (header_failed-then e failure)

  -- ---- a part of a tile

  load_failed-then : (e : Engine) (c : Cache) → load_failed (follows g e) c ≡ then g (load_failed e c)
  unfolding load_failed
  load_failed-then e c =
      ap (λ (x : Engine). load_failed x c) (parts e)
      ∙ either_then (ltb e.follower.failures 7) (set_then _ _ e.follower _ _ _) (set_then _ _ e.follower _ _ _)

  loaded_then : (p : Result Progress Refusal) (e : Engine) (c : Cache) → loaded_by p (follows g e) c ≡ then g (loaded_by p e c)
  unfolding arrived
  loaded_then (Ok Progress.Done) e c = ap (λ (x : Engine). arrived x c) (parts e) ∙ set_then _ _ e.follower _ _ _
  loaded_then (Ok Progress.More) e c = ap (λ (x : Engine). loaded_by (Ok Progress.More) x c) (parts e) ∙ set_then _ _ e.follower _ _ _
  loaded_then (Ok (Progress.Failed number)) e c = load_failed-then e c
  loaded_then (Err number) e c = refl

  part_after : (e : Engine) (arena : List ℕ) (key : TileKey) (failure : ℕ) (bs : List ℕ)
      → part_came (follows g e) arena key failure bs ≡ after g (part_came e arena key failure bs)
  unfolding part_came
  part_after e arena key failure bs =
      let x = load_tested e.shared.cache arena e.shared.header key failure bs in
      ap (λ (s : Stepped). over s x.arena) (loaded_then x.answer e x.cache)

  need_after : (m : Option TileKey) (e : Engine) (arena : List ℕ) (failure : ℕ) (bs : List ℕ)
      → need_came_by m (follows g e) arena failure bs ≡ after g (need_came_by m e arena failure bs)
  need_after None e arena failure bs = refl
  need_after (Some key) e arena failure bs = part_after e arena key failure bs

  came_after : (e : Engine) (arena : List ℕ) (failure : ℕ) (bs : List ℕ)
      → need_came (follows g e) arena failure bs ≡ after g (need_came e arena failure bs)
  came_after e arena failure bs =
      ap (λ (x : Engine). need_came_by x.follower.due.need (follows g e) arena failure bs) (parts e)
      ∙ need_after e.follower.due.need e arena failure bs

  -- ---- the delivery

  deliver_after : (p : Pending) (e : Engine) (arena : List ℕ) (failure : ℕ) (bs : List ℕ)
      → delivered_by p (follows g e) arena failure bs ≡ after g (delivered_by p e arena failure bs)
  deliver_after Pending.Nothing e arena failure bs = refl
  deliver_after Pending.Header e arena failure bs =
      either_after (fits_header failure (length bs)) (ap (λ (s : Stepped). over s arena) (header_then e failure bs)) refl
  deliver_after (Pending.Entry key) e arena failure bs = came_after e arena failure bs
  deliver_after Pending.Chunk e arena failure bs = came_after e arena failure bs

  commutes : (e : Engine) (arena : List ℕ) (failure : ℕ) (bs : List ℕ)
      → delivered (follows g e) arena failure bs ≡ after g (delivered e arena failure bs)
  unfolding delivered
  commutes e arena failure bs = deliver_after e.shared.cache.pending e arena failure bs

-- ---- a fix and a loss of fixes: before the delivery as after it, in answer, engine and arena

lost_aside : Aside lost
unfolding lost
lost_aside f need failures steps = refl

pub lost_commutes : (e : Engine) (arena : List ℕ) (failure : ℕ) (bs : List ℕ)
    → delivered (follows lost e) arena failure bs ≡ after lost (delivered e arena failure bs)
lost_commutes e arena failure bs = commutes lost lost_aside e arena failure bs

abbrev pub fixed_by : Fix → Follower → Follower
fixed_by fix f = fixed f fix

fixed_aside : (fix : Fix) → Aside (fixed_by fix)
unfolding fixed
fixed_aside fix f need failures steps = by (is_same_place f.sight.fix fix) _
  where
    by : (t : Bool) (x : Follower) → with_parts (cond t f x) need failures steps ≡ cond t (with_parts f need failures steps) (with_parts x need failures steps)
    by true x = refl
    by false x = refl

pub fix_commutes : (e : Engine) (fix : Fix) (arena : List ℕ) (failure : ℕ) (bs : List ℕ)
    → delivered (follows (fixed_by fix) e) arena failure bs ≡ after (fixed_by fix) (delivered e arena failure bs)
fix_commutes e fix arena failure bs = commutes (fixed_by fix) (fixed_aside fix) e arena failure bs
