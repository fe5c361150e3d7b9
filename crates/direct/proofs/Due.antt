-- What is due, and what a step off the map clears. The idea: unless a road is due for its match, a step off the map clears the matcher where it has a match
-- (`Clears`, along every list: `all_cleared`); where a fix is given only once nothing is due, no road is due off the map (`Rested`), not both a match and
-- a road are due (`Idles`), and so a step that answers that there is nothing to do leaves nothing due (`step_settles`).
use Rattle.refusal.specs.Refusal.{number_of}
use Rattle.refusal.specs.declared.Refusal.{Refusal}
use Rattle.cache.specs.declared.Loading.{Loading}
use Prim.Native.Nat.{ℕ, ◌+◌}
use mathlib.Core.Path.{◌≡◌, refl, sym, ap, subst, ◌∙◌}
use mathlib.Core.Bool.{Bool, true, false, ◌&&◌, ◌||◌, not, cond, true≢false}
use mathlib.Core.List.{List, [], ◌∷◌}
use mathlib.Core.Logic.{◌⊎◌, inl, inr}
use native.Mathlib.Omega.{arith}
use lib.Dec.{eqb}
use lib.Ieee.{Float}
use lib.ListN.{length}
use Rattle.std.specs.Prelude.{Result, Ok, Err, Option, Some, None}
use Rattle.pack.specs.declared.TileKey.{TileKey}
use Rattle.pack.specs.Grid.{is_point, key_of}
use Rattle.pack.specs.declared.Header.{Header}
use Rattle.cache.specs.declared.Pending.{Pending}
use Rattle.matcher.specs.declared.Matched.{Matched}
use Rattle.matcher.specs.Calls as Matching
use Rattle.matcher.specs.declared.Matcher.{Matcher}
use Rattle.matcher.specs.declared.Outcome as MatchOutcome
use Rattle.matcher.specs.declared.Outcome.TheVariants as Match
use Rattle.matcher.specs.declared.Updated.{Updated}
use Rattle.predict.specs.Predict as Predict
use Rattle.predict.specs.declared.End.TheVariants as End
use Rattle.predict.specs.declared.Outcome as RoadOutcome
use Rattle.predict.specs.declared.Outcome.TheVariants as Roads
use Rattle.predict.specs.declared.Prediction.{Prediction}
use Rattle.engine.specs.Fixes as Fixes
use Rattle.engine.specs.Publish.{with_match, without_match}
use Rattle.engine.specs.Follow as Followers
use Rattle.engine.specs.Follow.{is_matched}
use Rattle.engine.specs.declared.Ahead.{Ahead}
use Rattle.engine.specs.declared.Fix.{Fix}
use Rattle.engine.specs.declared.Follower.{Follower}
use Rattle.engine.specs.State as States
use Rattle.engine.specs.State.{refused, is_failed, pending_by, engine_ok}
use Rattle.engine.specs.Work as Work
use Rattle.engine.specs.Work.{counted, matched, matched_by, may_ask, match_ended_by, published, rematch, road_ended_by, off_map}
use Rattle.engine.specs.Deliver.{After, arrived, delivered_by, delivered, over}
use Rattle.engine.specs.Steps.{chunk_request, request_of, stepped}
use Rattle.engine.specs.Calls as Engines
use Rattle.engine.specs.declared.Changed.{Changed}
use Rattle.engine.specs.declared.Engine.{Engine}
use Rattle.engine.specs.declared.Phase.{Phase}
use Rattle.engine.specs.declared.Sight.{Sight}
use Rattle.engine.specs.declared.Status.TheVariants as Status
use Rattle.engine.specs.declared.Stepped.{Stepped}
use Rattle.engine_states.proofs.KeptParts.{apart}
use Rattle.direct.specs.Lists as Calls
use Rattle.direct.specs.Lists.{World, Call, exec, start}
use Rattle.direct.specs.Finished as Shows
use Rattle.direct.specs.Finished.{Shown, Road, Task, task_of, match_of, road_at, match_shown, road_shown, task_shown, step_shown}
use Rattle.direct.specs.Direct.{header_of}
use Rattle.direct.specs.Story.{after}
use Rattle.direct.specs.Settled.{AllCleared, is_settled, Settles, is_resting}
use Rattle.engine_states.proofs.Ways as Ways
use Rattle.engine_states.proofs.Ways.{Same, Rests, OffGrid, Works, Steps, step_is, Lends, lends_is}
use Rattle.direct.proofs.Beside.{steps_beside, deliver_left}
use Rattle.direct.proofs.Opened.{is_again}

-- ---- one list: what a step off the map clears

-- unless a road is due for its match, it goes alike by what stands published and by the match
abbrev pub Clears : Follower → Type 0
Clears f =
    (f.due.road && is_matched f.matcher.current) ≡ false →
    cond (is_matched f.ahead.matched) Matching.reset f.matcher ≡ cond (is_matched f.matcher.current) Matching.reset f.matcher

and_off : (a : Bool) → (a && false) ≡ false
and_off true = refl
and_off false = refl

same_either : (t : Bool) → cond t Matching.reset Matching.reset ≡ Matching.reset
same_either true = refl
same_either false = refl

-- a matcher that is cleared
pub reset_clears : (f : Follower) → f.matcher ≡ Matching.reset → Clears f
reset_clears f q c = rw q (same_either (is_matched f.ahead.matched))

either_clears : (t : Bool) (x y : Follower) → Clears x → Clears y → Clears (cond t x y)
either_clears true x y p q = p
either_clears false x y p q = q

either_stepped : (t : Bool) (x y : Stepped) → Clears x.engine.follower → Clears y.engine.follower → Clears (cond t x y).engine.follower
either_stepped true x y p q = p
either_stepped false x y p q = q

rests_clear : (f g : Follower) → Same f g → Rests f g → Clears f → Clears g
rests_clear f g s d c = by d.road
  where
    by : (g.due.road ≡ f.due.road) ⊎ ((g.due.road ≡ false) × (f.matcher.current ≡ None)) → Clears g
    by (inl r) = λ z. rw (s.matcher, s.ahead) (c (rw (r, s.matcher) at z))
    by (inr q) = λ z. rw (s.matcher, s.ahead) (c (rw q.1 (and_off f.due.road)))

off_clears : (f : Follower) (fix : Fix) → Clears f → Clears (off_map f fix)
unfolding off_map without_match
off_clears f fix c = by (is_matched f.ahead.matched)
  where
    left : Bool → Follower
    left t =
        Work.with_due (Work.with_ahead (Work.with_matcher f (cond t Matching.reset f.matcher))
        (cond t (without_match f.ahead fix.at_ms End.MapEdge) f.ahead)) (Work.matching_off f.due)

    by : (t : Bool) → Clears (left t)
    by true = λ z. refl
    by false = c

-- a match that was finished
match_clears : (f : Follower) (m : Matcher) (fix : Fix) → Clears (matched f m fix)
unfolding matched without_match
match_clears f m fix = by m.current refl
  where
    gone : (t : Bool) → is_matched f.ahead.matched ≡ t → is_matched (cond t (without_match f.ahead fix.at_ms End.Uncertain) f.ahead).matched ≡ false
    gone true q = refl
    gone false q = q

    on : (found : Matched) (y : Option Matched) → m.current ≡ Some found → f.ahead.matched ≡ y → Clears (matched_by (Some found) f m fix)
    on found None q r = λ z. absurd (true≢false (rw (r, q) at z))
    on found (Some y) q r = λ z. rw (r, q)

    by : (x : Option Matched) → m.current ≡ x → Clears (matched_by x f m fix)
    by None q = λ z. rw (gone (is_matched f.ahead.matched) refl, q)
    by (Some found) q = on found f.ahead.matched q refl

-- a road that was published, of the current match
road_clears : (f : Follower) (a : Ahead) (fix : Fix) (found : Matched) (p : Prediction) → f.matcher.current ≡ Some found → Clears (published f a fix found p)
unfolding published with_match
road_clears f a fix found p q = λ z. rw q

module _ (e : Engine) (arena : List ℕ) (c : Clears e.follower) where
  abbrev f₁ : Follower
  f₁ = counted e.follower

  match_ended : (x : Result MatchOutcome.Outcome Refusal) (fix : Fix) (u : Updated) → Clears (match_ended_by x e f₁ fix u).engine.follower
  match_ended (Ok (Match.Found m)) fix u = match_clears f₁ u.matcher fix
  match_ended (Ok Match.Nothing) fix u = match_clears f₁ u.matcher fix
  match_ended (Ok (Match.Need key)) fix u = either_clears (may_ask f₁.due u.cache.pages.count) _ _ c c
  match_ended (Err number) fix u = c

  road_ended : (x : Result RoadOutcome.Outcome Refusal) (fix : Fix) (found : Matched) (r : Predict.After) → e.follower.matcher.current ≡ Some found
      → Clears (road_ended_by x e f₁ fix found r).engine.follower
  road_ended (Ok (Roads.Road p)) fix found r q = road_clears f₁ _ fix found p q
  road_ended (Ok (Roads.Need key)) fix found r q =
      either_clears (may_ask f₁.due r.predicted.cache.pages.count) _ _ c (road_clears f₁ f₁.ahead fix found Work.no_road q)
  road_ended (Ok Roads.Rematch) fix found r q = reset_clears (rematch f₁) refl
  road_ended (Err number) fix found r q = either_stepped (eqb (number_of number) 10) _ _ (reset_clears (rematch f₁) refl) c

  steps_clear : {x : Task} {s : Stepped} → Steps e arena x s → Clears s.engine.follower
  unfolding arrived
  steps_clear (Ways.repeats o) = c
  steps_clear (Ways.fails failed) = c
  steps_clear (Ways.opens p offset len o f r) = c
  steps_clear (Ways.spoils key i r s p) = c
  steps_clear (Ways.arrives key n r s f) = c
  steps_clear (Ways.rests f s d idle) = rests_clear e.follower f s d c
  steps_clear (Ways.leaves f w o) = off_clears f₁ f c
  steps_clear (Ways.matches f key w k due) = match_ended (match_of e arena f).answer f (match_of e arena f)
  steps_clear (Ways.follows f key found w k q) = road_ended (road_at e arena found).predicted.answer f found (road_at e arena found) q

  pub step_clears : Clears (Engines.step e arena).engine.follower
  unfolding Engines.step
  step_clears = by (engine_ok e (length arena)) refl
    where
      by : (t : Bool) → engine_ok e (length arena) ≡ t → Clears (cond t (stepped e arena) (refused e Refusal.BadState)).engine.follower
      by true ok = steps_clear (step_is e arena ok)
      by false ok = c

pub deliver_clears : (e : Engine) (arena : List ℕ) (failure : ℕ) (bs : List ℕ) → Clears e.follower → Clears (Engines.deliver e arena failure bs).engine.follower
deliver_clears e arena failure bs c = let l = deliver_left e failure bs arena in rests_clear e.follower _ l.follower l.due c

lent_clears : (e : Engine) (arena Q : List ℕ) {r : After} → Lends e arena Q r → Clears e.follower → Clears r.engine.follower
lent_clears e arena Q (Ways.plain t) c = step_clears e arena c
lent_clears e arena Q (Ways.asks offset len failure bs a fair) c =
    deliver_clears (Engines.step e arena).engine arena failure bs (step_clears e arena c)

changed_clears : (t : Bool) (x y : Changed) → Clears x.engine.follower → Clears y.engine.follower → Clears (cond t x y).engine.follower
changed_clears true x y p q = p
changed_clears false x y p q = q

call_clears : (w : World) (c : Call) → Clears w.engine.follower → Clears (exec c w).world.engine.follower
unfolding exec Engines.fix Engines.lost Engines.reset States.forgotten Followers.fixed Followers.lost Followers.reset
call_clears w (Calls.fix f) c =
    changed_clears (engine_ok w.engine (length w.arena)) _ _
    (changed_clears (is_point f.lat f.lon) _ _ (either_clears (Fixes.is_same_place w.engine.follower.sight.fix f) _ _ c c) c) c
call_clears w Calls.lost c =
    changed_clears (engine_ok w.engine (length w.arena)) _ _ (reset_clears (Followers.lost w.engine.follower) refl) c
call_clears w (Calls.reset P) c =
    changed_clears (engine_ok w.engine (length w.arena)) _ _ (reset_clears (Followers.reset w.engine.follower) refl) c
call_clears w Calls.step c = step_clears w.engine w.arena c
call_clears w (Calls.deliver failure bs) c = deliver_clears w.engine w.arena failure bs c
call_clears w (Calls.step_from Q) c = lent_clears w.engine w.arena Q (lends_is w.engine w.arena Q) c
call_clears w (Calls.read r) c = c
call_clears w (Calls.on_cache x) c = c
call_clears w (Calls.nearby h p) c = c
call_clears w (Calls.current m) c = c
call_clears w (Calls.update m h p heading) c = c
call_clears w (Calls.predict h m reach samples behind) c = c

list_clears : (cs : List Call) (w : World) → Clears w.engine.follower → Clears (after cs w).engine.follower
unfolding after
list_clears [] w c = c
list_clears (x ∷ cs) w c = list_clears cs (exec x w).world (call_clears w x c)

pub start_clears : (n : ℕ) (horizon : Float) (arena : List ℕ) → Clears (start n horizon arena).engine.follower
unfolding Followers.fresh
start_clears n horizon arena = reset_clears (Followers.fresh horizon) refl

-- no road is due
pub not_due : (f : Follower) → Clears f → f.due.road ≡ false
    → cond (is_matched f.ahead.matched) Matching.reset f.matcher ≡ cond (is_matched f.matcher.current) Matching.reset f.matcher
not_due f c q = c (ap (λ (t : Bool). t && is_matched f.matcher.current) q)

pub all_cleared : AllCleared
unfolding off_map
all_cleared n horizon arena cs fix q =
    not_due (after cs (start n horizon arena)).engine.follower (list_clears cs (start n horizon arena) (start_clears n horizon arena)) q

-- ---- off the map

abbrev pub is_outside : Option TileKey → Bool
is_outside (Some key) = false
is_outside None = true

abbrev pub is_off : Header → Option Fix → Bool
is_off h None = false
is_off h (Some f) = is_outside (key_of h f.lat f.lon)

outside_is : (x : Option TileKey) → OffGrid x → is_outside x ≡ true
outside_is (Some key) o = absurd o
outside_is None o = refl

-- a matcher whose match is gone where the fix is off the map
abbrev pub cleared : Bool → Matcher → Matcher
cleared off m = cond (off && is_matched m.current) Matching.reset m

pub reset_cleared : (off : Bool) → cleared off Matching.reset ≡ Matching.reset
reset_cleared true = refl
reset_cleared false = refl

pub cleared_twice : (m : Matcher) → cleared true (cleared true m) ≡ cleared true m
cleared_twice m = by (is_matched m.current) refl
  where
    by : (t : Bool) → is_matched m.current ≡ t → cleared true (cond t Matching.reset m) ≡ cond t Matching.reset m
    by true q = refl
    by false q = ap (λ (t : Bool). cond t Matching.reset m) q

cleared_none : (m : Matcher) → is_matched (cleared true m).current ≡ false
cleared_none m = by (is_matched m.current) refl
  where
    by : (t : Bool) → is_matched m.current ≡ t → is_matched (cond t Matching.reset m).current ≡ false
    by true q = refl
    by false q = q

-- nothing is cleared of a matcher without a match, nor on the map
pub cleared_not : (off : Bool) (m : Matcher) → (off ≡ true → is_matched m.current ≡ false) → cleared off m ≡ m
cleared_not true m none = ap (λ (t : Bool). cond t Matching.reset m) (none refl)
cleared_not false m none = refl

-- off the map no road is due, and where no match is due either, there is none
abbrev pub Rested : List ℕ → Engine → Type 0
Rested P e =
    is_failed e.shared.phase ≡ false → is_off (header_of P) e.follower.sight.fix ≡ true →
    (e.follower.due.road ≡ false) × (e.follower.due.matching ≡ false → is_matched e.follower.matcher.current ≡ false)

pub rests_rest : (P : List ℕ) (e n : Engine) → Same e.follower n.follower → Rests e.follower n.follower → is_failed e.shared.phase ≡ false
    → Rested P e → Rested P n
rests_rest P e n s d ready r u o =
    let was : (e.follower.due.road ≡ false) × (e.follower.due.matching ≡ false → is_matched e.follower.matcher.current ≡ false)
    = r ready (rw s.sight at o) in
    (by d.road was.0, λ m. rw s.matcher (was.1 (sym d.matching ∙ m)))
  where
    by : (n.follower.due.road ≡ e.follower.due.road) ⊎ ((n.follower.due.road ≡ false) × (e.follower.matcher.current ≡ None))
        → e.follower.due.road ≡ false → n.follower.due.road ≡ false
    by (inl q) z = q ∙ z
    by (inr q) z = q.0

-- ---- a step

abbrev pub is_emptied : Shown → Bool
is_emptied (Shows.emptied m r) = true
is_emptied Shows.nothing = false
is_emptied (Shows.matched m) = false
is_emptied (Shows.unmatched m r) = false
is_emptied (Shows.published r) = false
is_emptied (Shows.again k m) = false
is_emptied (Shows.updated a m) = false
is_emptied (Shows.predicted a samples behind) = false
is_emptied Shows.unanswered = false

-- a step that shows s and leaves the engine n: it leaves the matcher; it works at a fix on the map; it finds the fix off the map
pub data Sorts (off : Bool) (e n : Engine) (s : Shown) : Type 0 where
  quiet : s ≡ Shows.nothing → n.follower.matcher ≡ e.follower.matcher → Sorts off e n s
  on_map : is_failed e.shared.phase ≡ false → off ≡ false → is_emptied s ≡ false → Sorts off e n s
  leaves : is_failed e.shared.phase ≡ false → off ≡ true → (t : Bool) (m : Matcher) (r : Road) → s ≡ cond t (Shows.emptied m r) Shows.nothing
      → n.follower.matcher ≡ cond (is_matched e.follower.ahead.matched) Matching.reset e.follower.matcher → Sorts off e n s

either_shown : (t : Bool) (x y : Shown) → is_emptied x ≡ false → is_emptied y ≡ false → is_emptied (cond t x y) ≡ false
either_shown true x y p q = p
either_shown false x y p q = q

match_shows : (x : Result MatchOutcome.Outcome Refusal) (e n : Engine) → is_emptied (match_shown x e n) ≡ false
match_shows (Ok (Match.Found m)) e n = refl
match_shows (Ok Match.Nothing) e n = either_shown (is_matched e.follower.ahead.matched) _ _ refl refl
match_shows (Ok (Match.Need key)) e n = refl
match_shows (Err number) e n = refl

road_shows : (x : Result RoadOutcome.Outcome Refusal) (n : Engine) → is_emptied (road_shown x n) ≡ false
road_shows (Ok (Roads.Road p)) n = refl
road_shows (Ok (Roads.Need key)) n = refl
road_shows (Ok Roads.Rematch) n = refl
road_shows (Err number) n = either_shown (eqb (number_of number) 10) _ _ refl refl

module _ (P : List ℕ) (e : Engine) (arena : List ℕ) (header : e.shared.phase ≡ Phase.Ready → e.shared.header ≡ header_of P) where
  abbrev off : Bool
  off = is_off (header_of P) e.follower.sight.fix

  -- by the key of the fix that it works at
  off_is : (f : Fix) → Works e f → off ≡ is_outside (key_of e.shared.header f.lat f.lon)
  off_is f w =
      ap (is_off (header_of P)) w.fix ∙ ap (λ (h : Header). is_outside (key_of h f.lat f.lon)) (sym (header w.ready))

  steps_sort : {x : Task} {s : Stepped} → Steps e arena x s → Sorts off e s.engine (task_shown x e arena s.engine)
  unfolding arrived off_map
  steps_sort (Ways.repeats o) = quiet refl refl
  steps_sort (Ways.fails failed) = quiet refl refl
  steps_sort (Ways.opens p offset len o f r) = quiet refl refl
  steps_sort (Ways.spoils key i r s p) = quiet refl refl
  steps_sort (Ways.arrives key n r s f) = quiet refl refl
  steps_sort (Ways.rests f s d idle) = quiet refl s.matcher
  steps_sort (Ways.leaves f w o) =
      leaves (ap is_failed w.ready) (off_is f w ∙ outside_is (key_of e.shared.header f.lat f.lon) o) (is_matched e.follower.ahead.matched) _ _ refl refl
  steps_sort (Ways.matches f key w k due) =
      on_map (ap is_failed w.ready) (off_is f w ∙ ap is_outside k) (match_shows (match_of e arena f).answer e _)
  steps_sort (Ways.follows f key found w k q) =
      on_map (ap is_failed w.ready) (off_is f w ∙ ap is_outside k) (road_shows (road_at e arena found).predicted.answer _)

  pub step_sorts : Sorts off e (Engines.step e arena).engine (step_shown e arena)
  unfolding step_shown Engines.step
  step_sorts = by (engine_ok e (length arena)) refl
    where
      left : Bool → Stepped
      left t = cond t (stepped e arena) (refused e Refusal.BadState)

      by : (t : Bool) → engine_ok e (length arena) ≡ t → Sorts off e (left t).engine (cond t (task_shown (task_of e) e arena (left t).engine) Shows.nothing)
      by true ok = steps_sort (step_is e arena ok)
      by false ok = quiet refl refl

  -- where it worked at a fix on the map, the fix stays there
  stays_on : {x : Task} {s : Stepped} → Steps e arena x s → off ≡ false → is_off (header_of P) s.engine.follower.sight.fix ≡ false
  stays_on goes q = rw (steps_beside e goes).sight q

  steps_rest : {x : Task} {s : Stepped} → Steps e arena x s → Clears e.follower → Rested P e → Rested P s.engine
  unfolding arrived off_map
  steps_rest (Ways.repeats o) c r = r
  steps_rest (Ways.fails failed) c r = r
  steps_rest (Ways.opens p offset len o f q) c r = r
  steps_rest (Ways.spoils key i q s p) c r = r
  steps_rest (Ways.arrives key n q s f) c r = r
  steps_rest (Ways.rests f s d idle) c r = λ u o. rests_rest P e (record { shared = e.shared; follower = f }) s d u r u o
  steps_rest (Ways.leaves f w o) c r = λ u z.
      ((r u z).0, λ m. ap (λ (x : Matcher). is_matched x.current) (not_due e.follower c (r u z).0) ∙ cleared_none e.follower.matcher)
  steps_rest (Ways.matches f key w k due) c r = λ u z.
      absurd (true≢false (sym z ∙ stays_on (Ways.matches f key w k due) (off_is f w ∙ ap is_outside k)))
  steps_rest (Ways.follows f key found w k q) c r = λ u z.
      absurd (true≢false (sym z ∙ stays_on (Ways.follows f key found w k q) (off_is f w ∙ ap is_outside k)))

  pub step_rests : Clears e.follower → Rested P e → Rested P (Engines.step e arena).engine
  unfolding Engines.step
  step_rests c r = by (engine_ok e (length arena)) refl
    where
      by : (t : Bool) → engine_ok e (length arena) ≡ t → Rested P (cond t (stepped e arena) (refused e Refusal.BadState)).engine
      by true ok = steps_rest (step_is e arena ok) c r
      by false ok = r

-- ---- a delivery

-- a pack that has failed is read no more
pub failed_delivers : (e : Engine) (arena : List ℕ) (failure : ℕ) (bs : List ℕ) → is_failed e.shared.phase ≡ true
    → (Engines.deliver e arena failure bs).engine ≡ e
unfolding Engines.deliver delivered
failed_delivers e arena failure bs failed = by (engine_ok e (length arena)) refl
  where
    unopened : (p : Phase) (x : Pending) → is_failed p ≡ true → e.shared.phase ≡ p → e.shared.cache.pending ≡ x
        → pending_by x e.shared e.follower.due.need ≡ true
        → (delivered_by x e arena failure bs).engine ≡ e
    unopened p Pending.Nothing f q r ok = refl
    unopened Phase.Failed Pending.Header f q r ok = absurd (true≢false (sym (rw q at ok)))
    unopened Phase.Failed (Pending.Entry key) f q r ok = absurd (true≢false (sym (rw q at ok)))
    unopened Phase.Failed Pending.Chunk f q r ok = absurd (true≢false (sym (rw q at ok)))
    unopened Phase.Ready Pending.Header f q r ok = absurd (true≢false (sym f))
    unopened Phase.Ready (Pending.Entry key) f q r ok = absurd (true≢false (sym f))
    unopened Phase.Ready Pending.Chunk f q r ok = absurd (true≢false (sym f))
    unopened Phase.Unread Pending.Header f q r ok = absurd (true≢false (sym f))
    unopened Phase.Unread (Pending.Entry key) f q r ok = absurd (true≢false (sym f))
    unopened Phase.Unread Pending.Chunk f q r ok = absurd (true≢false (sym f))

    by : (t : Bool) → engine_ok e (length arena) ≡ t
        → (cond t (delivered_by e.shared.cache.pending e arena failure bs) (over (refused e Refusal.BadState) arena)).engine ≡ e
    by true ok =
        unopened e.shared.phase e.shared.cache.pending failed refl refl (apart e (length arena) ok).pending
    by false ok = refl

-- ---- a step that rests

-- not both a match and a road are due, unless the pack has failed; without a fix neither is
pub record Idles (e : Engine) : Type 0 where
  pub both : is_failed e.shared.phase ≡ false → (e.follower.due.matching && e.follower.due.road) ≡ false
  pub none : e.follower.sight.fix ≡ None → (e.follower.due.matching || e.follower.due.road) ≡ false

-- with a fix
idles_at : (e : Engine) (f : Fix) → e.follower.sight.fix ≡ Some f → (e.follower.due.matching && e.follower.due.road) ≡ false → Idles e
idles_at e f q b = record { both = λ u. b; none = λ z. let o : ◌≡◌ {A = ℕ} 0 1 = cc in absurd (omega arith) }

pub settled_due : (a b c : Bool) → (a || not (b || c)) ≡ true → a ≡ false → (b ≡ false) × (c ≡ false)
settled_due true b c q z = absurd (true≢false z)
settled_due false true c q z = absurd (true≢false (sym q))
settled_due false false true q z = absurd (true≢false (sym q))
settled_due false false false q z = (refl, refl)

neither_due : (a b : Bool) → (a || b) ≡ false → (a ≡ false) × (b ≡ false)
neither_due true b q = absurd (true≢false q)
neither_due false b q = (refl, q)

rests_idle : (e n : Engine) → Same e.follower n.follower → Rests e.follower n.follower
    → (is_failed n.shared.phase ≡ false → is_failed e.shared.phase ≡ false) → Idles e → Idles n
rests_idle e n s d able i = record {
  both = λ u. rw d.matching (on d.road (i.both (able u)));
  none = λ z. rw d.matching (off d.road (neither_due e.follower.due.matching e.follower.due.road (i.none (sym (ap (λ (x : Sight). x.fix) s.sight) ∙ z))));
}
  where
    Road₁ : Type 0
    Road₁ = (n.follower.due.road ≡ e.follower.due.road) ⊎ ((n.follower.due.road ≡ false) × (e.follower.matcher.current ≡ None))

    on : Road₁ → (e.follower.due.matching && e.follower.due.road) ≡ false → (e.follower.due.matching && n.follower.due.road) ≡ false
    on (inl q) b = rw q b
    on (inr q) b = rw q.0 (and_off e.follower.due.matching)

    off : Road₁ → (e.follower.due.matching ≡ false) × (e.follower.due.road ≡ false) → (e.follower.due.matching || n.follower.due.road) ≡ false
    off (inl q) b = rw (q, b.0, b.1)
    off (inr q) b = rw (q.0, b.0)

module _ (e : Engine) (arena : List ℕ) (i : Idles e) where
  -- at a fix, of what a match or a road leaves
  abbrev NotBoth : Follower → Type 0
  NotBoth f = (f.due.matching && f.due.road) ≡ false

  either_idle : (t : Bool) (x y : Follower) → NotBoth x → NotBoth y → NotBoth (cond t x y)
  either_idle true x y p q = p
  either_idle false x y p q = q

  match_idle : (x : Result MatchOutcome.Outcome Refusal) (fix : Fix) (u : Updated) → NotBoth e.follower → NotBoth (match_ended_by x e (counted e.follower) fix u).engine.follower
  unfolding matched
  match_idle (Ok (Match.Found m)) fix u b = by u.matcher.current
    where
      by : (c : Option Matched) → NotBoth (matched_by c (counted e.follower) u.matcher fix)
      by None = refl
      by (Some g) = refl
  match_idle (Ok Match.Nothing) fix u b = by u.matcher.current
    where
      by : (c : Option Matched) → NotBoth (matched_by c (counted e.follower) u.matcher fix)
      by None = refl
      by (Some g) = refl
  match_idle (Ok (Match.Need key)) fix u b = either_idle (may_ask e.follower.due u.cache.pages.count) _ _ b refl
  match_idle (Err number) fix u b = b

  road_idle : (x : Result RoadOutcome.Outcome Refusal) (fix : Fix) (found : Matched) (r : Predict.After) → NotBoth e.follower
      → is_again (road_shown x (road_ended_by x e (counted e.follower) fix found r).engine) ≡ false
      → NotBoth (road_ended_by x e (counted e.follower) fix found r).engine.follower
  unfolding published
  road_idle (Ok (Roads.Road p)) fix found r b a = and_off e.follower.due.matching
  road_idle (Ok (Roads.Need key)) fix found r b a =
      either_idle (may_ask e.follower.due r.predicted.cache.pages.count) _ _ b (and_off e.follower.due.matching)
  road_idle (Ok Roads.Rematch) fix found r b a = absurd (true≢false a)
  road_idle (Err number) fix found r b a = by (eqb (number_of number) 10) a
    where
      left : Bool → Stepped
      left t = cond t (Work.ended e r.predicted.cache (rematch (counted e.follower)) (Ok Status.Working)) (refused e number)

      by : (t : Bool) → is_again (cond t (Shows.again 10 (left t).engine.follower.matcher) Shows.nothing) ≡ false → NotBoth (left t).engine.follower
      by true z = absurd (true≢false z)
      by false z = b

  open_works : (f : Fix) → Works e f → NotBoth e.follower
  open_works f w = i.both (ap is_failed w.ready)

  steps_idle : {x : Task} {s : Stepped} → Steps e arena x s → is_again (task_shown x e arena s.engine) ≡ false → Idles s.engine
  unfolding arrived off_map
  steps_idle (Ways.repeats o) a = i
  steps_idle (Ways.fails failed) a = i
  steps_idle (Ways.opens p offset len o f r) a = record { both = i.both; none = i.none }
  steps_idle (Ways.spoils key j r s p) a = i
  steps_idle (Ways.arrives key n r s f) a = record { both = i.both; none = i.none }
  steps_idle (Ways.rests f s d idle) a = rests_idle e (record { shared = e.shared; follower = f }) s d (λ u. u) i
  steps_idle (Ways.leaves f w o) a = idles_at _ f w.fix refl
  steps_idle (Ways.matches f key w k due) a =
      idles_at _ f (ap (λ (x : Sight). x.fix) (steps_beside e (Ways.matches f key w k due)).sight ∙ w.fix)
      (match_idle (match_of e arena f).answer f (match_of e arena f) (open_works f w))
  steps_idle (Ways.follows f key found w k q) a =
      idles_at _ f (ap (λ (x : Sight). x.fix) (steps_beside e (Ways.follows f key found w k q)).sight ∙ w.fix)
      (road_idle (road_at e arena found).predicted.answer f found (road_at e arena found) (open_works f w) a)

  step_idles : is_again (step_shown e arena) ≡ false → Idles (Engines.step e arena).engine
  unfolding step_shown Engines.step
  step_idles = by (engine_ok e (length arena)) refl
    where
      left : Bool → Stepped
      left t = cond t (stepped e arena) (refused e Refusal.BadState)

      by : (t : Bool) → engine_ok e (length arena) ≡ t → is_again (cond t (task_shown (task_of e) e arena (left t).engine) Shows.nothing) ≡ false → Idles (left t).engine
      by true ok a = steps_idle (step_is e arena ok) a
      by false ok a = i

  -- ---- and its answer

  settled_by : (n : Engine) → n.follower.due.matching ≡ false → n.follower.due.road ≡ false → is_settled n ≡ true
  settled_by n m r = rw (m, r) (or_true (is_failed n.shared.phase))
    where
      or_true : (t : Bool) → (t || true) ≡ true
      or_true true = refl
      or_true false = refl

  open_works_on : (p : Pending) → is_resting (request_of e.shared p) ≡ false
  open_works_on Pending.Nothing = refl
  open_works_on Pending.Header = refl
  open_works_on (Pending.Entry key) = refl
  open_works_on Pending.Chunk = by e.shared.cache.loading
    where
      by : (x : Option Loading) → is_resting (chunk_request x) ≡ false
      by None = refl
      by (Some l) = refl

  match_rests : (x : Result MatchOutcome.Outcome Refusal) (fix : Fix) (u : Updated) → e.follower.due.matching ≡ true → NotBoth e.follower
      → let s = match_ended_by x e (counted e.follower) fix u in is_resting s.answer ≡ true → is_settled s.engine ≡ true
  match_rests (Ok (Match.Found m)) fix u k b z = absurd (true≢false (sym z))
  match_rests (Ok Match.Nothing) fix u k b z = absurd (true≢false (sym z))
  match_rests (Ok (Match.Need key)) fix u k b z = by (may_ask e.follower.due u.cache.pages.count) z
    where
      f₂ : Bool → Follower
      f₂ t = cond t (Work.with_due (counted e.follower) (Work.asking e.follower.due key (e.follower.due.reloads + 1)))
          (Work.with_due (counted e.follower) (Work.match_done e.follower.due e.follower.due.road))

      by : (t : Bool) → is_resting (cond t (Ok Status.Working) (Ok Status.Idle)) ≡ true
          → is_settled (Work.ended e u.cache (f₂ t) (cond t (Ok Status.Working) (Ok Status.Idle))).engine ≡ true
      by true z = absurd (true≢false (sym z))
      by false z = settled_by (Work.ended e u.cache (f₂ false) (Ok Status.Idle)).engine refl (rw k at b)
  match_rests (Err number) fix u k b z = absurd (true≢false (sym z))

  road_works : (x : Result RoadOutcome.Outcome Refusal) (fix : Fix) (found : Matched) (r : Predict.After)
      → is_resting (road_ended_by x e (counted e.follower) fix found r).answer ≡ false
  road_works (Ok (Roads.Road p)) fix found r = refl
  road_works (Ok (Roads.Need key)) fix found r = refl
  road_works (Ok Roads.Rematch) fix found r = refl
  road_works (Err number) fix found r = by (eqb (number_of number) 10)
    where
      by : (t : Bool) → is_resting (cond t (Work.ended e r.predicted.cache (rematch (counted e.follower)) (Ok Status.Working)) (refused e number)).answer ≡ false
      by true = refl
      by false = refl

  module _ (P : List ℕ) (header : e.shared.phase ≡ Phase.Ready → e.shared.header ≡ header_of P) (r : Rested P e) where
    steps_settle : {x : Task} {s : Stepped} → Steps e arena x s → is_resting s.answer ≡ true → is_settled s.engine ≡ true
    unfolding arrived off_map
    steps_settle (Ways.repeats o) z = absurd (true≢false (sym z ∙ open_works_on e.shared.cache.pending))
    steps_settle (Ways.fails failed) z = rw failed
    steps_settle (Ways.opens p offset len o f q) z = absurd (true≢false (sym z))
    steps_settle (Ways.spoils key j q s p) z = absurd (true≢false (sym z))
    steps_settle (Ways.arrives key n q s f) z = absurd (true≢false (sym z))
    steps_settle (Ways.rests f s d idle) z = by idle
      where
        by : (e.follower.sight.fix ≡ None) ⊎ ((f.due.matching ≡ false) × (f.due.road ≡ false))
            → is_settled (record { shared = e.shared; follower = f }) ≡ true
        by (inl q) =
            let n : Engine = record { shared = e.shared; follower = f } in
            let due = neither_due f.due.matching f.due.road
            ((rests_idle e n s d (λ u. u) i).none (ap (λ (x : Sight). x.fix) s.sight ∙ q)) in
            settled_by n due.0 due.1
        by (inr q) = settled_by (record { shared = e.shared; follower = f }) q.0 q.1
    steps_settle (Ways.leaves f w o) z =
        settled_by (record { shared = e.shared; follower = off_map (counted e.follower) f }) refl
        (r (ap is_failed w.ready) (off_is P e arena header f w ∙ outside_is (key_of e.shared.header f.lat f.lon) o)).0
    steps_settle (Ways.matches f key w k due) z = match_rests (match_of e arena f).answer f (match_of e arena f) due (open_works f w) z
    steps_settle (Ways.follows f key found w k q) z =
        absurd (true≢false (sym z ∙ road_works (road_at e arena found).predicted.answer f found (road_at e arena found)))

    pub step_settles : is_resting (Engines.step e arena).answer ≡ true → is_settled (Engines.step e arena).engine ≡ true
    unfolding Engines.step
    step_settles = by (engine_ok e (length arena)) refl
      where
        left : Bool → Stepped
        left t = cond t (stepped e arena) (refused e Refusal.BadState)

        by : (t : Bool) → engine_ok e (length arena) ≡ t → is_resting (left t).answer ≡ true → is_settled (left t).engine ≡ true
        by true ok z = steps_settle (step_is e arena ok) z
        by false ok z = absurd (true≢false (sym z))

-- ---- what any call leaves due

deliver_idles : (e : Engine) (arena : List ℕ) (failure : ℕ) (bs : List ℕ) → Idles e → Idles (Engines.deliver e arena failure bs).engine
deliver_idles e arena failure bs i = by (is_failed e.shared.phase) refl
  where
    by : (f : Bool) → is_failed e.shared.phase ≡ f → Idles (Engines.deliver e arena failure bs).engine
    by true f = subst Idles (sym (failed_delivers e arena failure bs f)) i
    by false f =
        let l = deliver_left e failure bs arena in rests_idle e (Engines.deliver e arena failure bs).engine l.follower l.due (λ u. f) i

changed_idles : (t : Bool) (x y : Changed) → Idles x.engine → Idles y.engine → Idles (cond t x y).engine
changed_idles true x y p q = p
changed_idles false x y p q = q

fix_idles : (e : Engine) (f : Fix) → is_settled e ≡ true → Idles e → Idles (record { shared = e.shared; follower = Followers.fixed e.follower f })
unfolding Followers.fixed Fixes.seen
fix_idles e f settled i = by (Fixes.is_same_place e.follower.sight.fix f)
  where
    next : Follower
    next = record {
      sight = Fixes.seen e.follower.sight f;
      matcher = e.follower.matcher;
      due = Followers.match_asked e.follower.due;
      ahead = e.follower.ahead;
      failures = e.follower.failures;
      horizon_m = e.follower.horizon_m;
      steps = e.follower.steps;
    }

    by : (k : Bool) → Idles (record { shared = e.shared; follower = cond k e.follower next })
    by true = record { both = i.both; none = i.none }
    by false = record {
      both = λ u. (settled_due (is_failed e.shared.phase) e.follower.due.matching e.follower.due.road settled u).1;
      none = λ z. let o : ◌≡◌ {A = ℕ} 0 1 = cc in absurd (omega arith);
    }

lost_idles : (e : Engine) → Idles (record { shared = e.shared; follower = Followers.lost e.follower })
unfolding Followers.lost
lost_idles e = record { both = λ u. refl; none = λ z. refl }

reset_idles : (e : Engine) → Idles (States.forgotten e).engine
unfolding States.forgotten Followers.reset
reset_idles e = record { both = λ u. and_off (Followers.has_fix e.follower.sight.fix); none = λ z. rw z }

pub call_idles : (w : World) (c : Call) → Settles w c → is_again (step_shown w.engine w.arena) ≡ false → Idles w.engine → Idles (exec c w).world.engine
unfolding exec Engines.fix Engines.lost Engines.reset
call_idles w (Calls.fix f) settled a i =
    changed_idles (engine_ok w.engine (length w.arena)) _ _
    (changed_idles (is_point f.lat f.lon) _ _ (fix_idles w.engine f (settled f refl) i) i) i
call_idles w Calls.lost settled a i = changed_idles (engine_ok w.engine (length w.arena)) _ _ (lost_idles w.engine) i
call_idles w (Calls.reset Q) settled a i = changed_idles (engine_ok w.engine (length w.arena)) _ _ (reset_idles w.engine) i
call_idles w Calls.step settled a i = step_idles w.engine w.arena i a
call_idles w (Calls.deliver failure bs) settled a i = deliver_idles w.engine w.arena failure bs i
call_idles w (Calls.step_from Q) settled a i = by (lends_is w.engine w.arena Q)
  where
    by : {r : After} → Lends w.engine w.arena Q r → Idles r.engine
    by (Ways.plain t) = step_idles w.engine w.arena i a
    by (Ways.asks offset len failure bs q fair) =
        deliver_idles (Engines.step w.engine w.arena).engine w.arena failure bs (step_idles w.engine w.arena i a)
call_idles w (Calls.read r) settled a i = i
call_idles w (Calls.on_cache c) settled a i = record { both = i.both; none = i.none }
call_idles w (Calls.nearby h p) settled a i = i
call_idles w (Calls.current m) settled a i = i
call_idles w (Calls.update m h p heading) settled a i = record { both = i.both; none = i.none }
call_idles w (Calls.predict h m reach samples behind) settled a i = record { both = i.both; none = i.none }
