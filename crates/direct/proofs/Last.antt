-- The direct engine's last match is the published one, as long as no empty Memory answer was published. The idea: what a step publishes, and what the
-- direct engine keeps of it, are the same function of what the step shows (`kept_of`).
use Rattle.refusal.specs.declared.Refusal.{Refusal}
use Rattle.refusal.specs.Refusal.{number_of, number_of_result}
use Prim.Native.Nat.{ℕ, ◌+◌}
use mathlib.Core.Path.{◌≡◌, refl, sym, ap, ◌∙◌}
use mathlib.Core.Bool.{Bool, true, false, not, cond, true≢false}
use mathlib.Core.List.{List, [], ◌∷◌, ◌++◌}
use native.Mathlib.Omega.{arith}
use lib.Dec.{eqb}
use lib.Ieee.{Float}
use lib.IntN.{ℤ}
use lib.ListN.{length}
use Rattle.std.specs.Prelude.{Result, Ok, Err, Option, Some, None}
use Rattle.pack.specs.declared.TileKey.{TileKey}
use Rattle.pack.specs.Grid.{is_point, key_of}
use Rattle.matcher.specs.declared.Matched.{Matched}
use Rattle.matcher.specs.declared.Matcher.{Matcher}
use Rattle.matcher.specs.declared.Outcome as MatchOutcome
use Rattle.matcher.specs.declared.Outcome.TheVariants as Match
use Rattle.matcher.specs.Calls as Matching
use Rattle.matcher.specs.Gather as Gather
use Rattle.predict.specs.declared.End.TheVariants as End
use Rattle.predict.specs.declared.Outcome as RoadOutcome
use Rattle.predict.specs.declared.Outcome.TheVariants as Roads
use Rattle.engine.specs.Fixes as Fixes
use Rattle.engine.specs.Publish as Publish
use Rattle.engine.specs.Publish.{with_match, without_match, nothing_ahead}
use Rattle.engine.specs.Follow as Followers
use Rattle.engine.specs.Follow.{is_matched}
use Rattle.engine.specs.declared.Ahead.{Ahead}
use Rattle.engine.specs.declared.Fix.{Fix}
use Rattle.engine.specs.declared.Follower.{Follower}
use Rattle.engine.specs.State as States
use Rattle.engine.specs.State.{refused, unchanged, followed, engine_ok}
use Rattle.engine.specs.Work as Work
use Rattle.engine.specs.Work.{counted, may_ask, match_ended_by, road_ended_by}
use Rattle.engine.specs.Deliver.{After, arrived}
use Rattle.engine.specs.Steps.{stepped}
use Rattle.engine.specs.Calls as Engines
use Rattle.engine.specs.declared.Changed.{Changed}
use Rattle.engine.specs.declared.Engine.{Engine}
use Rattle.engine.specs.declared.Stepped.{Stepped}
use Rattle.direct.specs.Lists as Calls
use Rattle.direct.specs.Lists.{World, Call, exec, start, Along}
use Rattle.direct.specs.Finished as Shows
use Rattle.direct.specs.Finished.{Shown, is_road, Task, task_of, match_of, road_at, match_shown, road_shown, task_shown, step_shown, shown}
use Rattle.direct.specs.Direct.{Made, Told, Lookup, header_of, directly, Held, with_matcher, fixed, Worked, idle, stuck, match_worked, road_worked, current_worked, key_worked, step_worked_by, step_worked, match_held, road_held, worked, Waiting, a_fix, a_loss, Direct, new_direct, acted, applied, queued, settled, cleared, turned, pack_after, direct_exec}
use Rattle.direct.specs.Claims.{is_fetching, told_of, tolds, AllFair, made_of, Answers}
use Rattle.direct.specs.Story.{after}
use Rattle.direct.specs.Last.{direct_after, last_of, task_remembers, NoMemory, AllLast}
use Rattle.engine_states.proofs.Ways as Ways
use Rattle.engine_states.proofs.Ways.{Steps, Lends, step_is, lends_is}
use Rattle.direct.proofs.Beside.{match_asks_lem, deliver_left}
use Rattle.direct.proofs.Fit.{Fit, fit_after, fit_start}
use Rattle.direct.proofs.Seen.{told_by, made_current}
use Rattle.direct.proofs.Linked.{Linked, is_none, none_shows, busy, Silent, fetch_silent, Alike, StepTurn, step_turn, lent_turn, turn_alike}

-- the match kept of what a step shows
abbrev kept_of : Shown → Option Matched → Option Matched
kept_of (Shows.published r) c = r.matched
kept_of (Shows.unmatched m r) c = None
kept_of (Shows.emptied m r) c = None
kept_of Shows.nothing c = c
kept_of (Shows.matched m) c = c
kept_of (Shows.again k m) c = c
kept_of (Shows.updated a m) c = c
kept_of (Shows.predicted a samples behind) c = c
kept_of Shows.unanswered c = c

-- ---- the direct engine

module _ (at : Lookup) (made : Made) (P : List ℕ) (d : Held) where
  abbrev Keeps : Worked → Type 0
  Keeps x = x.held.last ≡ kept_of x.shown d.last

  match_keeps : (x : Result MatchOutcome.Outcome Refusal) (road : Bool) (f : Fix) (next : Matcher) → Keeps (match_worked x road d f next)
  match_keeps (Ok (Match.Found m)) road f next = refl
  match_keeps (Ok Match.Nothing) true f next = refl
  match_keeps (Ok Match.Nothing) false f next = refl
  match_keeps (Ok (Match.Need key)) road f next = refl
  match_keeps (Err k) road f next = refl

  road_keeps : (x : Result RoadOutcome.Outcome Refusal) (f : Fix) (found : Matched) (samples behind : List ℤ) → Keeps (road_worked x d f found samples behind)
  unfolding with_match
  road_keeps (Ok (Roads.Road p)) f found samples behind = refl
  road_keeps (Ok (Roads.Need key)) f found samples behind = refl
  road_keeps (Ok Roads.Rematch) f found samples behind = refl
  road_keeps (Err k) f found samples behind = by (eqb (number_of k) 10)
    where
      by : (t : Bool) → Keeps (cond t (record { held = with_matcher d Matching.reset; shown = Shows.again 10 Matching.reset }) (stuck d))
      by true = refl
      by false = refl

  current_keeps : (x : Option Matched) (f : Fix) → Keeps (current_worked at made P x d f)
  current_keeps None f = refl
  current_keeps (Some found) f = let r = road_held at made P found in road_keeps r.answer f found r.samples r.behind

  key_keeps : (x : Option TileKey) (f : Fix) → Keeps (key_worked at made P x d f)
  key_keeps (Some key) f = current_keeps d.matcher.current f
  key_keeps None f = refl

  step_keeps : (t : Told) → Keeps (step_worked at made P t d)
  unfolding step_worked
  step_keeps t = by d.sight.fix
    where
      at_fix : (f : Fix) (m r : Bool) → let u = match_held at made P d f in
          Keeps (cond m (match_worked u.answer t.road d f u.matcher) (cond r (key_worked at made P (key_of (header_of P) f.lat f.lon) d f) (idle d)))
      at_fix f true r = let u = match_held at made P d f in match_keeps u.answer t.road f u.matcher
      at_fix f false true = key_keeps (key_of (header_of P) f.lat f.lon) f
      at_fix f false false = refl

      by : (x : Option Fix) → Keeps (step_worked_by at made P x t d)
      by None = refl
      by (Some f) = at_fix f t.match t.road

fixed_last : (d : Held) (f : Fix) → (fixed d f).last ≡ d.last
fixed_last d f = by (Fixes.is_same_place d.sight.fix f)
  where
    by : (t : Bool) → (cond t d (record { sight = Fixes.seen d.sight f; matcher = d.matcher; last = d.last })).last ≡ d.last
    by true = refl
    by false = refl

-- what waits goes by the last match alone
waits_last : (xs : List Waiting) (d e : Held) → d.last ≡ e.last → (applied xs d).last ≡ (applied xs e).last
unfolding applied
waits_last [] d e q = q
waits_last (a_fix f ∷ xs) d e q = waits_last xs (fixed d f) (fixed e f) (fixed_last d f ∙ q ∙ sym (fixed_last e f))
waits_last (a_loss ∷ xs) d e q = waits_last xs (acted a_loss d) (acted a_loss e) refl

waits_more : (xs : List Waiting) (x : Waiting) (d : Held) → applied (xs ++ (x ∷ [])) d ≡ acted x (applied xs d)
unfolding applied
waits_more [] x d = refl
waits_more (y ∷ xs) x d = waits_more xs x (acted y d)

settled_last : (t : Bool) (d : Direct) → last_of (settled t d) ≡ last_of d
unfolding applied
settled_last true d = refl
settled_last false d = refl

-- ---- the engine

module _ (e : Engine) (arena : List ℕ) where
  abbrev a₁ : Ahead
  a₁ = e.follower.ahead

  abbrev f₁ : Follower
  f₁ = counted e.follower

  abbrev Leaves : Shown → Engine → Type 0
  Leaves s n = n.follower.ahead.matched ≡ kept_of s a₁.matched

  off_leaves : (f : Fix) → let n : Engine = record { shared = e.shared; follower = Work.off_map f₁ f } in Leaves (task_shown (Shows.off_map f) e arena n) n
  unfolding Work.off_map without_match
  off_leaves f = by (is_matched a₁.matched) _
    where
      left : Bool → Ahead
      left t = cond t (without_match a₁ f.at_ms End.MapEdge) a₁

      by : (t : Bool) (m : Matcher) → (left t).matched ≡ kept_of (cond t (Shows.emptied m (Shows.road_of (left t))) Shows.nothing) a₁.matched
      by true m = refl
      by false m = refl

  match_leaves : (f : Fix) (x : Result MatchOutcome.Outcome Refusal) → (match_of e arena f).answer ≡ x
      → let n = (match_ended_by x e f₁ f (match_of e arena f)).engine in Leaves (match_shown x e n) n
  unfolding Work.matched without_match
  match_leaves f (Ok (Match.Found m)) q = by (match_of e arena f).matcher.current (made_current e arena f (Ok (Match.Found m)) q refl)
    where
      by : (c : Option Matched) → Gather.outcome c ≡ Ok (Match.Found m) → (Work.matched_by c f₁ (match_of e arena f).matcher f).ahead.matched ≡ a₁.matched
      by None z = let o : ◌≡◌ {A = ℕ} 0 1 = cc in absurd (omega arith)
      by (Some g) z = refl
  match_leaves f (Ok Match.Nothing) q = by (match_of e arena f).matcher.current (made_current e arena f (Ok Match.Nothing) q refl) (is_matched a₁.matched) refl
    where
      by : (c : Option Matched) → Gather.outcome c ≡ Ok Match.Nothing → (t : Bool) → is_matched a₁.matched ≡ t
          → let g = Work.matched_by c f₁ (match_of e arena f).matcher f in
          g.ahead.matched ≡ kept_of (cond t (Shows.unmatched g.matcher (Shows.road_of g.ahead)) (Shows.matched g.matcher)) a₁.matched
      by None z true r = ap (λ (t : Bool). (cond t (without_match a₁ f.at_ms End.Uncertain) a₁).matched) r
      by None z false r = ap (λ (t : Bool). (cond t (without_match a₁ f.at_ms End.Uncertain) a₁).matched) r
      by (Some g) z t r = let o : ◌≡◌ {A = ℕ} 0 1 = cc in absurd (omega arith)
  match_leaves f (Ok (Match.Need key)) q = ap (λ (a : Ahead). a.matched) (match_asks_lem f₁ (match_of e arena f).cache.pages.count key).ahead
  match_leaves f (Err number) q = refl

  road_leaves : (f : Fix) (found : Matched) (x : Result RoadOutcome.Outcome Refusal) → (road_at e arena found).predicted.answer ≡ x
      → task_remembers (Shows.road f found) e arena ≡ false
      → let n = (road_ended_by x e f₁ f found (road_at e arena found)).engine in Leaves (road_shown x n) n
  unfolding Work.published with_match
  road_leaves f found (Ok (Roads.Road p)) q z = refl
  road_leaves f found (Ok (Roads.Need key)) q z =
      by (may_ask e.follower.due (road_at e arena found).predicted.cache.pages.count) (rw q at z)
    where
      by : (t : Bool) → not t ≡ false
          → (cond t (Work.with_due f₁ (Work.asking f₁.due key (f₁.due.reloads + 1))) (Work.published f₁ a₁ f found Work.no_road)).ahead.matched ≡ a₁.matched
      by true y = refl
      by false y = absurd (true≢false y)
  road_leaves f found (Ok Roads.Rematch) q z = refl
  road_leaves f found (Err number) q z = by (eqb (number_of number) 10) _ _ refl refl _
    where
      by : (t : Bool) (x y : Stepped) → x.engine.follower.ahead.matched ≡ a₁.matched → y.engine.follower.ahead.matched ≡ a₁.matched
          → (m : Matcher) → (cond t x y).engine.follower.ahead.matched ≡ kept_of (cond t (Shows.again 10 m) Shows.nothing) a₁.matched
      by true x y p q m = p
      by false x y p q m = q

  steps_leave : {x : Task} {s : Stepped} → Steps e arena x s → task_remembers x e arena ≡ false → Leaves (task_shown x e arena s.engine) s.engine
  unfolding arrived
  steps_leave (Ways.repeats o) z = refl
  steps_leave (Ways.fails failed) z = refl
  steps_leave (Ways.opens p offset len o f r) z = refl
  steps_leave (Ways.spoils key i r s p) z = refl
  steps_leave (Ways.arrives key n r s f) z = refl
  steps_leave (Ways.rests f s d idle) z = ap (λ (a : Ahead). a.matched) s.ahead
  steps_leave (Ways.leaves f w o) z = off_leaves f
  steps_leave (Ways.matches f key w k due) z = match_leaves f (match_of e arena f).answer refl
  steps_leave (Ways.follows f key found w k c) z = road_leaves f found (road_at e arena found).predicted.answer refl z

  step_leaves : task_remembers (task_of e) e arena ≡ false → Leaves (step_shown e arena) (Engines.step e arena).engine
  unfolding step_shown Engines.step
  step_leaves z = by (engine_ok e (length arena)) refl
    where
      left : Bool → Stepped
      left t = cond t (stepped e arena) (refused e Refusal.BadState)

      by : (t : Bool) → engine_ok e (length arena) ≡ t → Leaves (cond t (task_shown (task_of e) e arena (left t).engine) Shows.nothing) (left t).engine
      by true ok = steps_leave (step_is e arena ok) z
      by false ok = refl

  -- where it works at nothing, it shows nothing
  none_step : is_none (task_of e) ≡ true → step_shown e arena ≡ Shows.nothing
  unfolding step_shown
  none_step q = by (engine_ok e (length arena))
    where
      by : (t : Bool) → cond t (task_shown (task_of e) e arena (Engines.step e arena).engine) Shows.nothing ≡ Shows.nothing
      by true = none_shows (task_of e) e arena _ q
      by false = refl

-- ---- a call

module _ (at : Lookup) (n : ℕ) (horizon : Float) (answers : Answers n at) (P : List ℕ) (w : World) (d : Direct) (l : Linked d (is_fetching w.engine) w.engine.follower) (fit : Fit P n horizon w)
    (is : last_of d ≡ w.engine.follower.ahead.matched) where
  abbrev e₁ : Engine
  e₁ = w.engine

  abbrev made : Made
  made = made_of n horizon

  abbrev next : Call → Direct
  next c = (direct_exec at made P c (told_of w c) d).direct

  -- a turn at a step that shows s and leaves the engine m
  turn_last : (s : Shown) (m : Engine) (refused : Bool) → StepTurn at n horizon P w d l s m → m.follower.ahead.matched ≡ kept_of s e₁.follower.ahead.matched
      → (is_none (task_of e₁) ≡ true → s ≡ Shows.nothing)
      → last_of (turned (told_by refused (is_fetching m) s) d (step_worked at made P (told_by refused (is_fetching m) s) d.held)).direct
      ≡ m.follower.ahead.matched
  unfolding applied
  turn_last s m refused t q none =
      settled_last (is_fetching m) (record { held = x.held; waiting = d.waiting }) ∙ by (is_none (task_of e₁)) refl
    where
      x : Worked
      x = step_worked at made P (told_by refused (is_fetching m) s) d.held

      keeps : x.held.last ≡ kept_of s d.held.last
      keeps = step_keeps at made P d.held (told_by refused (is_fetching m) s) ∙ ap (λ (y : Shown). kept_of y d.held.last) (t.shown refused)

      by : (k : Bool) → is_none (task_of e₁) ≡ k → (applied d.waiting x.held).last ≡ m.follower.ahead.matched
      by true k =
          waits_last d.waiting x.held d.held (keeps ∙ ap (λ (y : Shown). kept_of y d.held.last) (none k)) ∙ is
          ∙ sym (q ∙ ap (λ (y : Shown). kept_of y e₁.follower.ahead.matched) (none k))
      by false k = waits_none ∙ keeps ∙ ap (kept_of s) last_is ∙ sym q
        where
          empty : d.waiting ≡ []
          empty = l.none (busy e₁ k).idle

          waits_none : (applied d.waiting x.held).last ≡ x.held.last
          waits_none = ap (λ (xs : List Waiting). (applied xs x.held).last) empty

          last_is : d.held.last ≡ e₁.follower.ahead.matched
          last_is = sym (ap (λ (xs : List Waiting). (applied xs d.held).last) empty) ∙ is

  step_last : task_remembers (task_of e₁) e₁ w.arena ≡ false → last_of (next Calls.step) ≡ (exec Calls.step w).world.engine.follower.ahead.matched
  unfolding direct_exec worked exec shown
  step_last z =
      turn_last (step_shown e₁ w.arena) (Engines.step e₁ w.arena).engine _ (step_turn at n horizon P w d l fit.shared fit.reach answers)
      (step_leaves e₁ w.arena z) (none_step e₁ w.arena)

  lent_leaves : (Q : List ℕ) {r : After} → Lends e₁ w.arena Q r → task_remembers (task_of e₁) e₁ w.arena ≡ false
      → r.engine.follower.ahead.matched ≡ kept_of (step_shown e₁ w.arena) e₁.follower.ahead.matched
  lent_leaves Q (Ways.plain t) z = step_leaves e₁ w.arena z
  lent_leaves Q (Ways.asks offset len failure bs a fair) z =
      let silent : Silent e₁ w.arena = fetch_silent e₁ w.arena a in
      let after = (deliver_left (Engines.step e₁ w.arena).engine failure bs w.arena).follower.ahead in
      ap (λ (x : Ahead). x.matched) (after ∙ silent.keeps.ahead)
      ∙ sym (ap (λ (s : Shown). kept_of s e₁.follower.ahead.matched) silent.shows)

  lent_last : (Q : List ℕ) → task_remembers (task_of e₁) e₁ w.arena ≡ false
      → last_of (next (Calls.step_from Q)) ≡ (exec (Calls.step_from Q) w).world.engine.follower.ahead.matched
  unfolding direct_exec worked exec shown
  lent_last Q z =
      let goes = lends_is e₁ w.arena Q in
      turn_last (step_shown e₁ w.arena) (Engines.step_from e₁ w.arena Q).engine _ (lent_turn at n horizon P w d l fit.shared fit.reach answers Q goes)
      (lent_leaves Q goes z) (none_step e₁ w.arena)

  -- a call that changes neither
  quiet_last : (t : Bool) (m : Engine) → m.follower.ahead ≡ e₁.follower.ahead → last_of (settled t d) ≡ m.follower.ahead.matched
  quiet_last t m q = settled_last t d ∙ is ∙ sym (ap (λ (a : Ahead). a.matched) q)

  received_last : (t : Bool) (x : Waiting) → last_of (settled t (queued d x)) ≡ (acted x (applied d.waiting d.held)).last
  received_last t x = settled_last t (queued d x) ∙ ap (λ (h : Held). h.last) (waits_more d.waiting x d.held)

  fix_last : (f : Fix) → last_of (next (Calls.fix f)) ≡ (exec (Calls.fix f) w).world.engine.follower.ahead.matched
  unfolding direct_exec exec shown Engines.fix Followers.fixed applied
  fix_last f = by (engine_ok e₁ (length w.arena)) (is_point f.lat f.lon)
    where
      left : Bool → Bool → Changed
      left s t = cond s (cond t (followed e₁ (Followers.fixed e₁.follower f)) (unchanged e₁ Refusal.OutOfRange)) (unchanged e₁ Refusal.BadState)

      kept : (Followers.fixed e₁.follower f).ahead ≡ e₁.follower.ahead
      kept = same (Fixes.is_same_place e₁.follower.sight.fix f) _ refl
        where
          same : (k : Bool) (g : Follower) → g.ahead ≡ e₁.follower.ahead → (cond k e₁.follower g).ahead ≡ e₁.follower.ahead
          same true g q = refl
          same false g q = q

      by : (s t : Bool) → last_of (settled (is_fetching (left s t).engine) (cond (not (eqb (number_of_result (left s t).answer) 0)) d (queued d (a_fix f))))
          ≡ (left s t).engine.follower.ahead.matched
      by true true =
          received_last (is_fetching e₁) (a_fix f) ∙ fixed_last (applied d.waiting d.held) f ∙ is ∙ sym (ap (λ (a : Ahead). a.matched) kept)
      by true false = quiet_last (is_fetching e₁) e₁ refl
      by false t = quiet_last (is_fetching e₁) e₁ refl

  lost_last : last_of (next Calls.lost) ≡ (exec Calls.lost w).world.engine.follower.ahead.matched
  unfolding direct_exec exec shown Engines.lost Followers.lost nothing_ahead
  lost_last = by (engine_ok e₁ (length w.arena))
    where
      left : Bool → Changed
      left t = cond t (followed e₁ (Followers.lost e₁.follower)) (unchanged e₁ Refusal.BadState)

      gone : (a : Ahead) (x : Option Matched) → a.matched ≡ x → None ≡ (cond (is_matched x) (Publish.forgotten a) a).matched
      gone a None q = sym q
      gone a (Some m) q = refl

      by : (t : Bool) → last_of (settled (is_fetching (left t).engine) (cond (not (eqb (number_of_result (left t).answer) 0)) d (queued d a_loss)))
          ≡ (left t).engine.follower.ahead.matched
      by true = received_last (is_fetching e₁) a_loss ∙ gone e₁.follower.ahead e₁.follower.ahead.matched refl
      by false = quiet_last (is_fetching e₁) e₁ refl

  reset_last : (Q : List ℕ) → last_of (next (Calls.reset Q)) ≡ (exec (Calls.reset Q) w).world.engine.follower.ahead.matched
  unfolding direct_exec exec shown Engines.reset States.forgotten Followers.reset nothing_ahead applied
  reset_last Q = by (engine_ok e₁ (length w.arena))
    where
      left : Bool → Changed
      left t = cond t (States.forgotten e₁) (unchanged e₁ Refusal.BadState)

      told : Bool → Told
      told t = record { refused = not (eqb (number_of_result (left t).answer) 0); fetching = is_fetching (left t).engine; match = false; road = false }

      by : (t : Bool) → last_of (cleared (told t) d).direct ≡ (left t).engine.follower.ahead.matched
      by true = refl
      by false = quiet_last (is_fetching e₁) e₁ refl

  -- a fetch is open after a call
  abbrev open_after : Call → Bool
  open_after c = is_fetching (exec c w).world.engine

  call_last : (c : Call) → NoMemory w c → last_of (next c) ≡ (exec c w).world.engine.follower.ahead.matched
  unfolding direct_exec worked exec shown
  call_last (Calls.fix f) z = fix_last f
  call_last Calls.lost z = lost_last
  call_last (Calls.reset Q) z = reset_last Q
  call_last Calls.step z = step_last (z.step refl)
  call_last (Calls.deliver failure bs) z =
      quiet_last (open_after (Calls.deliver failure bs)) (Engines.deliver e₁ w.arena failure bs).engine (deliver_left e₁ failure bs w.arena).follower.ahead
  call_last (Calls.step_from Q) z = lent_last Q (z.lent Q refl)
  call_last (Calls.read r) z = quiet_last (open_after (Calls.read r)) e₁ refl
  call_last (Calls.on_cache c) z = quiet_last (open_after (Calls.on_cache c)) e₁ refl
  call_last (Calls.nearby h p) z = quiet_last (open_after (Calls.nearby h p)) e₁ refl
  call_last (Calls.current m) z = quiet_last (open_after (Calls.current m)) e₁ refl
  call_last (Calls.update m h p heading) z = quiet_last (open_after (Calls.update m h p heading)) e₁ refl
  call_last (Calls.predict h m reach samples behind) z = quiet_last (open_after (Calls.predict h m reach samples behind)) e₁ refl

-- ---- a list

module _ (at : Lookup) (n : ℕ) (horizon : Float) (answers : Answers n at) where
  list_last : (cs : List Call) (P : List ℕ) (w : World) (d : Direct) → Fit P n horizon w → Linked d (is_fetching w.engine) w.engine.follower
      → last_of d ≡ w.engine.follower.ahead.matched → AllFair P cs w → Along NoMemory cs w
      → last_of (direct_after at (made_of n horizon) P cs (tolds cs w) d) ≡ (after cs w).engine.follower.ahead.matched
  unfolding AllFair Along tolds after direct_after
  list_last [] P w d fit l is fair none = is
  list_last (c ∷ cs) P w d fit l is fair none =
      let a : Alike at n horizon P w d l c = turn_alike at n horizon P w d l fit.shared fit.reach answers c fair.0 in
      list_last cs (pack_after P c (told_of w c)) (exec c w).world (direct_exec at (made_of n horizon) P c (told_of w c) d).direct
      (fit_after P n horizon w c fit fair.0) a.linked (call_last at n horizon answers P w d l fit is c none.0) fair.1 none.1

-- what a road that is emptied goes by
off_road : (w : World) (f : Fix) → engine_ok w.engine (length w.arena) ≡ true → task_of w.engine ≡ Shows.off_map f
    → is_road (step_shown w.engine w.arena) ≡ is_matched w.engine.follower.ahead.matched
unfolding step_shown
off_road w f ok task = rw (ok, task) (by (is_matched w.engine.follower.ahead.matched) _ _)
  where
    by : (t : Bool) (m : Matcher) (r : Shows.Road) → is_road (cond t (Shows.emptied m r) Shows.nothing) ≡ t
    by true m r = refl
    by false m r = refl

none_road : (w : World) (f : Fix) → engine_ok w.engine (length w.arena) ≡ true → task_of w.engine ≡ Shows.match f
    → (match_of w.engine w.arena f).answer ≡ Ok Match.Nothing
    → is_road (step_shown w.engine w.arena) ≡ is_matched w.engine.follower.ahead.matched
unfolding step_shown
none_road w f ok task none = rw (ok, task, none) (by (is_matched w.engine.follower.ahead.matched) _ _ _)
  where
    by : (t : Bool) (m k : Matcher) (r : Shows.Road) → is_road (cond t (Shows.unmatched m r) (Shows.matched k)) ≡ t
    by true m k r = refl
    by false m k r = refl

pub all_last : AllLast
unfolding Followers.fresh applied nothing_ahead
all_last n few horizon arena P cs fair none =
    let answers : Answers n (directly n) = λ Q key s. refl in
    let is = list_last (directly n) n horizon answers cs P (start n horizon arena) new_direct (fit_start P n horizon arena few)
    (record { sight = refl; matcher = refl; none = λ r. refl }) refl fair none in
    record {
      published = is;
      off_map = λ f ok task. off_road (after cs (start n horizon arena)) f ok task ∙ sym (ap is_matched is);
      none_found = λ f ok task found. none_road (after cs (start n horizon arena)) f ok task found ∙ sym (ap is_matched is);
    }
