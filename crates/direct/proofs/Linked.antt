-- The direct engine beside a follower, call by call: what it holds, with what waits done, is what the follower sees and matches, and nothing waits where no
-- fetch is open (`Linked`). Each call shows what the direct engine works out of it (`turn_alike`). What is shared is asked for by itself (`SharedFits`), and of
-- another follower over it whose turn the call was not the link stands (`others_linked`).
use Rattle.refusal.specs.declared.Refusal.{Refusal}
use Rattle.std.specs.Prelude.{Option, Some, None, Result, Ok, Err}
use Rattle.refusal.specs.Refusal.{number_of, number_of_result}
use Prim.Native.Nat.{ℕ}
use mathlib.Core.Path.{◌≡◌, refl, sym, ap, subst, ◌∙◌}
use mathlib.Core.Bool.{Bool, true, false, ◌&&◌, not, cond, true≢false}
use mathlib.Core.List.{List, [], ◌∷◌, ◌++◌}
use native.Mathlib.Omega.{arith}
use lib.Dec.{eqb}
use lib.Ieee.{Float}
use lib.IntN.{ℤ}
use lib.ListN.{length}
use Rattle.pack.specs.Grid.{is_point, in_grid}
use Rattle.pack.specs.declared.Header.{Header}
use Rattle.pack.specs.declared.TileKey.{TileKey}
use Rattle.geo.specs.declared.Point.{Point}
use Rattle.cache.specs.Direct.{Look, look}
use Rattle.cache.specs.State.{cache_ok}
use Rattle.cache.specs.declared.Pending.{Pending}
use Rattle.cache_lists.specs.Claims.{Parsed}
use Rattle.matcher.specs.declared.Heading.{Heading}
use Rattle.matcher.specs.declared.Kept.{Kept}
use Rattle.matcher.specs.declared.Matched.{Matched}
use Rattle.matcher.specs.Calls as Matching
use Rattle.matcher.specs.Gather as Gather
use Rattle.matcher.specs.Relied as MatchRelied
use Rattle.matcher.specs.State.{call_ok, heading_ok}
use Rattle.matcher.specs.State as Matchers
use Rattle.matcher.specs.declared.Matcher.{Matcher}
use Rattle.matcher.specs.declared.Outcome as MatchOutcome
use Rattle.matcher.specs.declared.Outcome.TheVariants as Match
use Rattle.matcher.specs.declared.Updated.{Updated}
use Rattle.matcher.specs.declared.gather.Ending.{Ending}
use Rattle.matcher.proofs.AgreeLaws.{update_agrees}
use Rattle.predict.specs.Predict as Predict
use Rattle.predict.specs.Relied as RoadRelied
use Rattle.predict.specs.declared.Outcome as RoadOutcome
use Rattle.predict.specs.declared.Outcome.TheVariants as Roads
use Rattle.predict.proofs.RoadLaws.{predict_agrees}
use Rattle.engine.specs.Fixes as Fixes
use Rattle.engine.specs.Follow as Followers
use Rattle.engine.specs.declared.Fix.{Fix}
use Rattle.engine.specs.declared.Follower.{Follower}
use Rattle.engine.specs.State.{refused, unchanged, followed, forgotten, engine_ok}
use Rattle.engine.specs.Work.{match_ended_by, may_ask, road_ended_by, counted}
use Rattle.engine.specs.Deliver.{After, arrived}
use Rattle.engine.specs.Steps.{stepped}
use Rattle.engine.specs.Calls as Engines
use Rattle.engine.specs.declared.Changed.{Changed}
use Rattle.engine.specs.declared.Engine.{Engine}
use Rattle.engine.specs.declared.Phase.{Phase}
use Rattle.engine.specs.declared.Status.{Status}
use Rattle.engine.specs.declared.Stepped.{Stepped}
use Rattle.cache_lists.proofs.Same.{header_is}
use Rattle.direct.specs.Lists as Calls
use Rattle.direct.specs.Lists.{World, Call, number, exec}
use Rattle.direct.specs.Finished.{Shown, nothing, updated, predicted, is_match, is_road, Task, none, off_map, match, road, open_task, task_of, match_of, road_at, task_shown, step_shown, update_shown, predict_shown, shown}
use Rattle.direct.specs.Direct.{Told, Lookup, Held, fixed, lost_held, Worked, idle, or_unanswered, step_worked, update_worked, predict_worked, worked, Waiting, a_fix, a_loss, Direct, acted, applied, queued, settled, cleared, turned, pack_after, direct_exec}
use Rattle.direct.specs.Claims.{is_fetching, told_of, made_of, Answers, Fair}
use Rattle.engine_states.proofs.Ways as Ways
use Rattle.engine_states.proofs.Ways.{Same, Steps, step_is, is_fetch, Lends, lends_is}
use Rattle.direct.proofs.Beside.{same_self, same_then, Beside, steps_beside, deliver_left}
use Rattle.direct.proofs.Fit.{SharedFits, Reaches, shared_after, reach_after}
use Rattle.direct.proofs.Agreed.{look_agrees}
use Rattle.direct.proofs.Seen.{told_by, Agrees, idle_worked, steps_agree}

-- of one follower; `fetching`: whether the shared fetch is open
pub record Linked (d : Direct) (fetching : Bool) (f : Follower) : Type 0 where
  pub sight : (applied d.waiting d.held).sight ≡ f.sight
  pub matcher : (applied d.waiting d.held).matcher ≡ f.matcher
  pub none : fetching ≡ false → d.waiting ≡ []

-- ---- what waits

-- once no fetch is open nothing waits
settles : (d : Direct) (fetching : Bool) (f : Follower) → (applied d.waiting d.held).sight ≡ f.sight
    → (applied d.waiting d.held).matcher ≡ f.matcher → Linked (settled fetching d) fetching f
unfolding applied
settles d true f s m = record { sight = s; matcher = m; none = λ r. absurd (true≢false r) }
settles d false f s m = record { sight = s; matcher = m; none = λ r. refl }

-- a call that is another follower's: told that it finished nothing here, and whether a fetch is open after it
pub others_linked : (d : Direct) (before after : Bool) (f : Follower) → Linked d before f → Linked (settled after d) after f
others_linked d before after f l = settles d after f l.sight l.matcher

applied_more : (xs : List Waiting) (x : Waiting) (d : Held) → applied (xs ++ (x ∷ [])) d ≡ acted x (applied xs d)
unfolding applied
applied_more [] x d = refl
applied_more (y ∷ xs) x d = applied_more xs x (acted y d)

-- ---- fixes and losses

-- the held state of a follower
abbrev held_of : Follower → Option Matched → Held
held_of g last = record { sight = g.sight; matcher = g.matcher; last = last }

pub held_is : (d : Held) (g : Follower) → d.sight ≡ g.sight → d.matcher ≡ g.matcher → d ≡ held_of g d.last
held_is d g s m = λ i. record { sight = s i; matcher = m i; last = d.last }

-- a fix does to what is held what it does to the follower
pub record Follows (d : Held) (g : Follower) : Type 0 where
  pub sight : d.sight ≡ g.sight
  pub matcher : d.matcher ≡ g.matcher

fixed_of : (g : Follower) (last : Option Matched) (f : Fix) → Follows (fixed (held_of g last) f) (Followers.fixed g f)
unfolding Followers.fixed
fixed_of g last f = by (Fixes.is_same_place g.sight.fix f) _ _ _ _ (record { sight = refl; matcher = refl }) (record { sight = refl; matcher = refl })
  where
    by : (t : Bool) (a b : Held) (u v : Follower) → Follows a u → Follows b v → Follows (cond t a b) (cond t u v)
    by true a b u v p q = p
    by false a b u v p q = q

pub fixed_follows : (d : Held) (g : Follower) (f : Fix) → d.sight ≡ g.sight → d.matcher ≡ g.matcher → Follows (fixed d f) (Followers.fixed g f)
fixed_follows d g f s m = subst (λ (x : Held). Follows (fixed x f) (Followers.fixed g f)) (sym (held_is d g s m)) (fixed_of g d.last f)

pub lost_follows : (d : Held) (g : Follower) → d.sight ≡ g.sight → Follows (lost_held d) (Followers.lost g)
unfolding Followers.lost
lost_follows d g s = record { sight = ap Fixes.lost s; matcher = refl }

-- what a fix or a loss that was taken leaves
received_linked : (d : Direct) (fetching : Bool) (f : Follower) (x : Waiting) (g : Follower) → Linked d fetching f
    → Follows (acted x (applied d.waiting d.held)) g → Linked (settled fetching (queued d x)) fetching g
received_linked d fetching f x g l follows =
    settles (queued d x) fetching g
    (ap (λ (y : Held). y.sight) (applied_more d.waiting x d.held) ∙ follows.sight)
    (ap (λ (y : Held). y.matcher) (applied_more d.waiting x d.held) ∙ follows.matcher)

-- ---- a step that works at nothing

abbrev pub is_none : Task → Bool
is_none none = true
is_none (off_map f) = false
is_none (match f) = false
is_none (road f found) = false

pub none_shows : (x : Task) (e : Engine) (arena : List ℕ) (m : Engine) → is_none x ≡ true → task_shown x e arena m ≡ nothing
none_shows none e arena m q = refl
none_shows (off_map f) e arena m q = absurd (true≢false (sym q))
none_shows (match f) e arena m q = absurd (true≢false (sym q))
none_shows (road f found) e arena m q = absurd (true≢false (sym q))

none_keeps : {e : Engine} {arena : List ℕ} {x : Task} {s : Stepped} → Steps e arena x s → is_none x ≡ true → Same e.follower s.engine.follower
unfolding arrived
none_keeps {e} (Ways.repeats o) q = same_self e.follower
none_keeps {e} (Ways.fails failed) q = same_self e.follower
none_keeps {e} (Ways.opens p offset len o f r) q = same_self e.follower
none_keeps {e} (Ways.spoils key i r s p) q = same_self e.follower
none_keeps (Ways.arrives key n r s f) q = record { sight = refl; matcher = refl; horizon = refl; ahead = refl }
none_keeps (Ways.rests f s d idle) q = s
none_keeps (Ways.leaves f w o) q = absurd (true≢false (sym q))
none_keeps (Ways.matches f key w k due) q = absurd (true≢false (sym q))
none_keeps (Ways.follows f key found w k c) q = absurd (true≢false (sym q))

-- one that works at something has no fetch open, in phase Ready
pub record Busy (e : Engine) : Type 0 where
  pub idle : is_fetching e ≡ false
  pub ready : e.shared.phase ≡ Phase.Ready

pub busy : (e : Engine) → is_none (task_of e) ≡ false → Busy e
unfolding task_of
busy e = by e.shared.cache.pending e.shared.phase refl refl
  where
    by : (p : Pending) (x : Phase) → e.shared.cache.pending ≡ p → e.shared.phase ≡ x → is_none (open_task p e) ≡ false → Busy e
    by Pending.Nothing Phase.Ready q r o = record { idle = rw q; ready = r }
    by Pending.Nothing Phase.Unread q r o = absurd (true≢false (rw r at o))
    by Pending.Nothing Phase.Failed q r o = absurd (true≢false (rw r at o))
    by Pending.Header x q r o = absurd (true≢false o)
    by (Pending.Entry key) x q r o = absurd (true≢false o)
    by Pending.Chunk x q r o = absurd (true≢false o)

-- what works at something asks for nothing
either_answer : (t : Bool) (x y : Stepped) → is_fetch x.answer ≡ false → is_fetch y.answer ≡ false → is_fetch (cond t x y).answer ≡ false
either_answer true x y p q = p
either_answer false x y p q = q

match_answers : (x : Result MatchOutcome.Outcome Refusal) (e : Engine) (f : Follower) (p : Fix) (u : Updated) → is_fetch (match_ended_by x e f p u).answer ≡ false
match_answers (Ok (Match.Found m)) e f p u = refl
match_answers (Ok Match.Nothing) e f p u = refl
match_answers (Ok (Match.Need key)) e f p u = by (may_ask f.due u.cache.pages.count)
  where
    by : (t : Bool) → is_fetch (cond t (Ok Status.Working) (Ok Status.Idle)) ≡ false
    by true = refl
    by false = refl
match_answers (Err number) e f p u = refl

road_answers : (x : Result RoadOutcome.Outcome Refusal) (e : Engine) (f : Follower) (p : Fix) (found : Matched) (r : Predict.After)
    → is_fetch (road_ended_by x e f p found r).answer ≡ false
road_answers (Ok (Roads.Road y)) e f p found r = refl
road_answers (Ok (Roads.Need key)) e f p found r = refl
road_answers (Ok Roads.Rematch) e f p found r = refl
road_answers (Err number) e f p found r = either_answer (eqb (number_of number) 10) _ _ refl refl

work_answers : {e : Engine} {arena : List ℕ} {x : Task} {s : Stepped} → Steps e arena x s → is_none x ≡ false → is_fetch s.answer ≡ false
work_answers (Ways.repeats o) q = absurd (true≢false q)
work_answers (Ways.fails failed) q = absurd (true≢false q)
work_answers (Ways.opens p offset len o f r) q = absurd (true≢false q)
work_answers (Ways.spoils key i r s p) q = absurd (true≢false q)
work_answers (Ways.arrives key n r s f) q = absurd (true≢false q)
work_answers (Ways.rests f s d idle) q = absurd (true≢false q)
work_answers (Ways.leaves f w o) q = refl
work_answers {e} {arena} (Ways.matches f key w k due) q = match_answers (match_of e arena f).answer e (counted e.follower) f (match_of e arena f)
work_answers {e} {arena} (Ways.follows f key found w k c) q =
    road_answers (road_at e arena found).predicted.answer e (counted e.follower) f found (road_at e arena found)

-- so a step that asks for something shows nothing
pub record Silent (e : Engine) (arena : List ℕ) : Type 0 where
  pub shows : step_shown e arena ≡ nothing
  pub keeps : Same e.follower (Engines.step e arena).engine.follower

pub fetch_silent : (e : Engine) (arena : List ℕ) {offset len : ℕ} → (Engines.step e arena).answer ≡ Ok (Status.Fetch offset len) → Silent e arena
unfolding step_shown Engines.step
fetch_silent e arena {offset} {len} q = record { shows = shows (engine_ok e (length arena)) refl q; keeps = keeps (engine_ok e (length arena)) refl q }
  where
    left : Bool → Stepped
    left t = cond t (stepped e arena) (refused e Refusal.BadState)

    asks_none : engine_ok e (length arena) ≡ true → (stepped e arena).answer ≡ Ok (Status.Fetch offset len) → is_none (task_of e) ≡ true
    asks_none ok a = by (is_none (task_of e)) refl
      where
        by : (t : Bool) → is_none (task_of e) ≡ t → is_none (task_of e) ≡ true
        by true r = r
        by false r = absurd (true≢false (sym (ap is_fetch a) ∙ work_answers (step_is e arena ok) r))

    shows : (t : Bool) → engine_ok e (length arena) ≡ t → (left t).answer ≡ Ok (Status.Fetch offset len) → cond t (task_shown (task_of e) e arena (left t).engine) nothing ≡ nothing
    shows true ok a = none_shows (task_of e) e arena (stepped e arena).engine (asks_none ok a)
    shows false ok a = refl

    keeps : (t : Bool) → engine_ok e (length arena) ≡ t → (left t).answer ≡ Ok (Status.Fetch offset len) → Same e.follower (left t).engine.follower
    keeps true ok a = none_keeps (step_is e arena ok) (asks_none ok a)
    keeps false ok a = same_self e.follower

-- a match over a lookup is refused with 12 alone
only_twelve : (at : TileKey → Look) (m : Matcher) (h : Header) (p : Point) (heading : Heading) (k : Refusal)
    → (Gather.update_over at m h p heading).answer ≡ Err k → k ≡ Refusal.BadState
unfolding Gather.update_over
only_twelve at m h p heading k = let r = Gather.run_over at m h p heading in by r.end r.kept
  where
    found : (c : Option Matched) → Gather.outcome c ≡ Err k → k ≡ Refusal.BadState
    found None q = let z : ◌≡◌ {A = ℕ} 0 1 = cc in absurd (omega arith)
    found (Some f) q = let z : ◌≡◌ {A = ℕ} 0 1 = cc in absurd (omega arith)

    by : (end : Ending) (kept : Kept) → (Gather.matching_by end kept m heading).answer ≡ Err k → k ≡ Refusal.BadState
    by Ending.All kept q = found (Gather.matching_by Ending.All kept m heading).matcher.current q
    by (Ending.Need key) kept q = let z : ◌≡◌ {A = ℕ} 0 1 = cc in absurd (omega arith)
    by Ending.Stale kept q = cc

-- ---- a call, and the direct engine's turn

module _ (at : Lookup) (n : ℕ) (horizon : Float) (P : List ℕ) (w : World) (d : Direct) (l : Linked d (is_fetching w.engine) w.engine.follower) where
  abbrev e₁ : Engine
  e₁ = w.engine

  pub record Alike (c : Call) : Type 0 where
    pub shown : (direct_exec at (made_of n horizon) P c (told_of w c) d).shown ≡ shown w c
    pub linked : Linked (direct_exec at (made_of n horizon) P c (told_of w c) d).direct (is_fetching (exec c w).world.engine) (exec c w).world.engine.follower

  fix_alike : (f : Fix) → Alike (Calls.fix f)
  unfolding direct_exec exec shown Engines.fix
  fix_alike f = record { shown = refl; linked = linked (engine_ok e₁ (length w.arena)) (is_point f.lat f.lon) }
    where
      left : Bool → Bool → Changed
      left s t = cond s (cond t (followed e₁ (Followers.fixed e₁.follower f)) (unchanged e₁ Refusal.OutOfRange)) (unchanged e₁ Refusal.BadState)

      follows : Follows (acted (a_fix f) (applied d.waiting d.held)) (Followers.fixed e₁.follower f)
      follows = fixed_follows (applied d.waiting d.held) e₁.follower f l.sight l.matcher

      linked : (s t : Bool)
          → Linked (settled (is_fetching (left s t).engine) (cond (not (eqb (number_of_result (left s t).answer) 0)) d (queued d (a_fix f))))
          (is_fetching (left s t).engine) (left s t).engine.follower
      linked true true = received_linked d (is_fetching e₁) e₁.follower (a_fix f) (Followers.fixed e₁.follower f) l follows
      linked true false = others_linked d _ (is_fetching e₁) e₁.follower l
      linked false t = others_linked d _ (is_fetching e₁) e₁.follower l

  lost_alike : Alike Calls.lost
  unfolding direct_exec exec shown Engines.lost
  lost_alike = record { shown = refl; linked = linked (engine_ok e₁ (length w.arena)) }
    where
      left : Bool → Changed
      left t = cond t (followed e₁ (Followers.lost e₁.follower)) (unchanged e₁ Refusal.BadState)

      linked : (t : Bool) → Linked (settled (is_fetching (left t).engine) (cond (not (eqb (number_of_result (left t).answer) 0)) d (queued d a_loss)))
          (is_fetching (left t).engine) (left t).engine.follower
      linked true =
          received_linked d (is_fetching e₁) e₁.follower a_loss (Followers.lost e₁.follower) l
          (lost_follows (applied d.waiting d.held) e₁.follower l.sight)
      linked false = others_linked d _ (is_fetching e₁) e₁.follower l

  reset_alike : (Q : List ℕ) → Alike (Calls.reset Q)
  unfolding direct_exec exec shown Engines.reset forgotten Followers.reset applied
  reset_alike Q = record { shown = refl; linked = linked (engine_ok e₁ (length w.arena)) }
    where
      left : Bool → Changed
      left t = cond t (forgotten e₁) (unchanged e₁ Refusal.BadState)

      told : Bool → Told
      told t = record { refused = not (eqb (number_of_result (left t).answer) 0); fetching = is_fetching (left t).engine; match = false; road = false }

      linked : (t : Bool) → Linked (cleared (told t) d).direct (is_fetching (left t).engine) (left t).engine.follower
      linked true = record { sight = l.sight; matcher = refl; none = λ r. refl }
      linked false = others_linked d _ (is_fetching e₁) e₁.follower l

  -- a call that shows nothing, and leaves what is seen and matched
  quiet : (m : Engine) → Same e₁.follower m.follower → Linked (settled (is_fetching m) d) (is_fetching m) m.follower
  quiet m s = settles d (is_fetching m) m.follower (l.sight ∙ sym s.sight) (l.matcher ∙ sym s.matcher)

  -- ---- a step

  -- a turn at a step that shows s and leaves the engine m
  pub record StepTurn (s : Shown) (m : Engine) : Type 0 where
    pub shown : (refused : Bool) → (turned (told_by refused (is_fetching m) s) d
        (step_worked at (made_of n horizon) P (told_by refused (is_fetching m) s) d.held)).shown ≡ s
    pub linked : (refused : Bool)
        → Linked (turned (told_by refused (is_fetching m) s) d (step_worked at (made_of n horizon) P (told_by refused (is_fetching m) s) d.held)).direct
        (is_fetching m) m.follower

  nothing_turn : (m : Engine) → Same e₁.follower m.follower → StepTurn nothing m
  nothing_turn m s = record {
    shown = λ refused. ap (λ (x : Worked). x.shown) (idle_worked at n horizon P (told_by refused (is_fetching m) nothing) d.held refl refl);
    linked = λ refused. subst (λ (x : Worked). Linked (turned (told_by refused (is_fetching m) nothing) d x).direct (is_fetching m) m.follower)
        (sym (idle_worked at n horizon P (told_by refused (is_fetching m) nothing) d.held refl refl)) (quiet m s);
  }

  quiet_turn : (s : Shown) (m : Engine) → s ≡ nothing → Same e₁.follower m.follower → StepTurn s m
  quiet_turn s m q f = subst (λ (x : Shown). StepTurn x m) (sym q) (nothing_turn m f)

  module _ (fits : SharedFits P n e₁.shared w.arena) (as_made : Reaches horizon e₁.follower) (answers : Answers n at) where
    -- where it works at something, nothing waits
    module _ (b : Busy e₁) where
      waits_none : d.waiting ≡ []
      waits_none = l.none b.idle

      sight_is : d.held.sight ≡ e₁.follower.sight
      unfolding applied
      sight_is = sym (ap (λ (xs : List Waiting). (applied xs d.held).sight) waits_none) ∙ l.sight

      matcher_is : d.held.matcher ≡ e₁.follower.matcher
      unfolding applied
      matcher_is = sym (ap (λ (xs : List Waiting). (applied xs d.held).matcher) waits_none) ∙ l.matcher

      parsed : Parsed P e₁.shared.header
      parsed = rw b.ready at fits.header

      busy_turn : (x : Task) (s : Stepped) → Steps e₁ w.arena x s → Beside e₁ s.engine → StepTurn (task_shown x e₁ w.arena s.engine) s.engine
      unfolding applied
      busy_turn x s goes beside = record {
        shown = λ refused. subst (λ (y : Held). (step_worked at (made_of n horizon) P (told refused) y).shown ≡ task_shown x e₁ w.arena
            s.engine) here (agrees refused).shown;
        linked = λ refused. settles _ (is_fetching s.engine) s.engine.follower (after_sight refused) (after_matcher refused);
      }
        where
          told : Bool → Told
          told refused = told_by refused (is_fetching s.engine) (task_shown x e₁ w.arena s.engine)

          agrees : (refused : Bool) → Agrees at n horizon P e₁ w.arena (sym (header_is parsed)) as_made fits.cache.count
              (look_agrees P n e₁.shared.cache w.arena e₁.shared.header parsed fits.cache at answers) d.held.last refused (is_fetching s.engine)
              (task_shown x e₁ w.arena s.engine) s.engine.follower.matcher
          agrees refused =
              steps_agree at n horizon P e₁ w.arena (sym (header_is parsed)) as_made fits.cache.count
              (look_agrees P n e₁.shared.cache w.arena e₁.shared.header parsed fits.cache at answers) d.held.last refused
              (is_fetching s.engine) goes

          here : held_of e₁.follower d.held.last ≡ d.held
          here = sym (held_is d.held e₁.follower sight_is matcher_is)

          next : Bool → Held → Held
          next refused y = (step_worked at (made_of n horizon) P (told refused) y).held

          after_sight : (refused : Bool) → (applied d.waiting (next refused d.held)).sight ≡ s.engine.follower.sight
          after_sight refused =
              ap (λ (xs : List Waiting). (applied xs (next refused d.held)).sight) waits_none
              ∙ subst (λ (y : Held). (next refused y).sight ≡ e₁.follower.sight) here (agrees refused).sight ∙ sym beside.sight

          after_matcher : (refused : Bool) → (applied d.waiting (next refused d.held)).matcher ≡ s.engine.follower.matcher
          after_matcher refused =
              ap (λ (xs : List Waiting). (applied xs (next refused d.held)).matcher) waits_none
              ∙ subst (λ (y : Held). (next refused y).matcher ≡ s.engine.follower.matcher) here (agrees refused).matcher

    pub step_turn : StepTurn (step_shown e₁ w.arena) (Engines.step e₁ w.arena).engine
    unfolding step_shown Engines.step
    step_turn = by (engine_ok e₁ (length w.arena)) refl
      where
        left : Bool → Stepped
        left t = cond t (stepped e₁ w.arena) (refused e₁ Refusal.BadState)

        works : engine_ok e₁ (length w.arena) ≡ true → (t : Bool) → is_none (task_of e₁) ≡ t
            → StepTurn (task_shown (task_of e₁) e₁ w.arena (stepped e₁ w.arena).engine) (stepped e₁ w.arena).engine
        works ok true q =
            quiet_turn _ (stepped e₁ w.arena).engine (none_shows (task_of e₁) e₁ w.arena _ q) (none_keeps (step_is e₁ w.arena ok) q)
        works ok false q =
            busy_turn (busy e₁ q) (task_of e₁) (stepped e₁ w.arena) (step_is e₁ w.arena ok) (steps_beside e₁ (step_is e₁ w.arena ok))

        by : (t : Bool) → engine_ok e₁ (length w.arena) ≡ t → StepTurn (cond t (task_shown (task_of e₁) e₁ w.arena (left t).engine) nothing) (left t).engine
        by true ok = works ok (is_none (task_of e₁)) refl
        by false ok = nothing_turn e₁ (same_self e₁.follower)

    pub lent_turn : (Q : List ℕ) {r : After} → Lends e₁ w.arena Q r → StepTurn (step_shown e₁ w.arena) r.engine
    lent_turn Q (Ways.plain t) = step_turn
    lent_turn Q (Ways.asks offset len failure bs a fair) =
        let silent : Silent e₁ w.arena = fetch_silent e₁ w.arena a in
        let after = (deliver_left (Engines.step e₁ w.arena).engine failure bs w.arena).follower in
        quiet_turn _ _ silent.shows (same_then silent.keeps after)

    step_alike : Alike Calls.step
    unfolding direct_exec worked exec shown
    step_alike = let t = step_turn in record { shown = t.shown _; linked = t.linked _ }

    lent_alike : (Q : List ℕ) → Alike (Calls.step_from Q)
    unfolding direct_exec worked exec shown
    lent_alike Q = let t = lent_turn Q (lends_is e₁ w.arena Q) in record { shown = t.shown _; linked = t.linked _ }

    -- ---- direct calls

    update_shows : (m : Matcher) (h : Header) (p : Point) (heading : Heading) → Parsed P h
        → let u : Updated = Matching.update m e₁.shared.cache w.arena h p heading in
        cond (is_match (update_shown u.answer u.matcher)) (update_worked at (made_of n horizon) P m h p heading) nothing ≡ update_shown u.answer u.matcher
    unfolding Matching.update Gather.updated update_worked
    update_shows m h p heading parsed =
        by (call_ok m e₁.shared.cache h (length w.arena)) (is_point p.lat p.lon && heading_ok heading) refl
      where
        v : Gather.Matching
        v = Gather.update_over (look e₁.shared.cache w.arena h.tile) m h p heading

        same : MatchRelied.is_finished v.answer ≡ true → Gather.update_over (at P) m h p heading ≡ v
        same fin = update_agrees (look e₁.shared.cache w.arena h.tile) (at P)
            (look_agrees P n e₁.shared.cache w.arena h parsed fits.cache at answers) m h p heading fin

        -- worked out, once 8 was tested
        works : Shown
        works = let u = Gather.update_over (at P) m h p heading in or_unanswered (update_shown u.answer u.matcher)

        shows : (x : Result MatchOutcome.Outcome Refusal) → v.answer ≡ x → cond (is_match (update_shown x v.matcher)) works nothing ≡ update_shown x v.matcher
        shows (Ok (Match.Found y)) q = rw (same (rw q), q)
        shows (Ok Match.Nothing) q = rw (same (rw q), q)
        shows (Ok (Match.Need key)) q = refl
        shows (Err k) q = rw (only_twelve (look e₁.shared.cache w.arena h.tile) m h p heading k q)

        left : Bool → Bool → Updated
        left s t = cond s (cond t (Gather.updated m e₁.shared.cache w.arena h p heading) (Matchers.refused m e₁.shared.cache Refusal.OutOfRange))
            (Matchers.refused m e₁.shared.cache Refusal.BadState)

        by : (s t : Bool) → (is_point p.lat p.lon && heading_ok heading) ≡ t → cond (is_match (update_shown (left s t).answer (left s t).matcher))
            (cond (is_point p.lat p.lon && heading_ok heading) works (updated (Err Refusal.OutOfRange) m)) nothing ≡ update_shown (left s t).answer (left s t).matcher
        by true true q = rw q (shows v.answer refl)
        by true false q = rw q
        by false t q = refl

    predict_shows : (h : Header) (m : Matched) (reach : Float) (samples behind : List ℤ) → Parsed P h
        → let x : Predict.After = Predict.predict e₁.shared.cache w.arena h m reach samples behind in
        let s : Shown = predict_shown x.predicted.answer x.samples x.behind in
        cond (is_road s) (predict_worked at (made_of n horizon) P h m reach samples behind) nothing ≡ s
    unfolding Predict.predict Predict.predicted_in predict_worked
    predict_shows h m reach samples behind parsed = by (cache_ok e₁.shared.cache h (length w.arena)) (in_grid h m.tile.key) refl
      where
        v : Predict.Forecast (List TileKey)
        v = Predict.predict_over (look e₁.shared.cache w.arena h.tile) e₁.shared.cache.pages.count h m reach samples behind

        same : RoadRelied.is_finished v.answer ≡ true → Predict.predict_over (at P) n h m reach samples behind ≡ v
        same fin =
            ap (λ (k : ℕ). Predict.predict_over (at P) k h m reach samples behind) (sym fits.cache.count)
            ∙ predict_agrees (look e₁.shared.cache w.arena h.tile) (at P)
            (look_agrees P n e₁.shared.cache w.arena h parsed fits.cache at answers) e₁.shared.cache.pages.count h m reach samples behind fin

        -- worked out, once 9 was tested
        works : Shown
        works = let r = Predict.predict_over (at P) n h m reach samples behind in or_unanswered (predict_shown r.answer r.samples r.behind)

        Shows₁ : Result RoadOutcome.Outcome Refusal → Type 0
        Shows₁ x = cond (is_road (predict_shown x v.samples v.behind)) works nothing ≡ predict_shown x v.samples v.behind

        refused_shows : (k : Refusal) (t : Bool) → eqb (number_of k) 12 ≡ t → v.answer ≡ Err k → Shows₁ (Err k)
        refused_shows k true q a = rw q
        refused_shows k false q a = rw (q, same (rw (a, q)), a, q)

        shows : (x : Result RoadOutcome.Outcome Refusal) → v.answer ≡ x → Shows₁ x
        shows (Ok (Roads.Road y)) q = rw (same (rw q), q)
        shows (Ok (Roads.Need key)) q = refl
        shows (Ok Roads.Rematch) q = rw (same (rw q), q)
        shows (Err k) q = refused_shows k (eqb (number_of k) 12) refl q

        left : Bool → Bool → Predict.After
        left s t =
            cond s
            (cond t (Predict.predicted_in e₁.shared.cache w.arena h m reach samples behind)
            (Predict.untouched (Predict.refused e₁.shared.cache Refusal.OutsideGrid) samples behind))
            (Predict.untouched (Predict.refused e₁.shared.cache Refusal.BadState) samples behind)

        by : (s t : Bool) → in_grid h m.tile.key ≡ t
            → cond (is_road (predict_shown (left s t).predicted.answer (left s t).samples (left s t).behind))
            (cond (in_grid h m.tile.key) works (predicted (Err Refusal.OutsideGrid) [] [])) nothing
            ≡ predict_shown (left s t).predicted.answer (left s t).samples (left s t).behind
        by true true q = rw q (shows v.answer refl)
        by true false q = rw q
        by false t q = refl

    -- ---- a call

    pub turn_alike : (c : Call) → Fair P w c → Alike c
    unfolding direct_exec worked exec shown
    turn_alike (Calls.fix f) fair = fix_alike f
    turn_alike Calls.lost fair = lost_alike
    turn_alike (Calls.reset Q) fair = reset_alike Q
    turn_alike Calls.step fair = step_alike
    turn_alike (Calls.deliver failure bs) fair =
        record { shown = refl; linked = quiet (exec (Calls.deliver failure bs) w).world.engine (deliver_left e₁ failure bs w.arena).follower }
    turn_alike (Calls.step_from Q) fair = lent_alike Q
    turn_alike (Calls.read r) fair = record { shown = refl; linked = quiet e₁ (same_self e₁.follower) }
    turn_alike (Calls.on_cache c) fair = record { shown = refl; linked = quiet (exec (Calls.on_cache c) w).world.engine (same_self e₁.follower) }
    turn_alike (Calls.nearby h p) fair = record { shown = refl; linked = quiet e₁ (same_self e₁.follower) }
    turn_alike (Calls.current m) fair = record { shown = refl; linked = quiet e₁ (same_self e₁.follower) }
    turn_alike (Calls.update m h p heading) fair =
        record { shown = update_shows m h p heading fair; linked = quiet (exec (Calls.update m h p heading) w).world.engine (same_self e₁.follower) }
    turn_alike (Calls.predict h m reach samples behind) fair =
        record {
          shown = predict_shows h m reach samples behind fair;
          linked = quiet (exec (Calls.predict h m reach samples behind) w).world.engine (same_self e₁.follower);
        }

    -- ---- the whole turn of one follower

    -- what it shows, and its link; what is shared, and its horizon; and the link of any other follower over what is shared
    pub record Turn (c : Call) : Type 0 where
      pub alike : Alike c
      pub shared : SharedFits (pack_after P c (told_of w c)) n (exec c w).world.engine.shared (exec c w).world.arena
      pub reach : Reaches horizon (exec c w).world.engine.follower
      pub others : (x : Direct) (g : Follower) → Linked x (is_fetching e₁) g
          → Linked (settled (is_fetching (exec c w).world.engine) x) (is_fetching (exec c w).world.engine) g

    pub turn : (c : Call) → Fair P w c → Turn c
    turn c fair = record {
      alike = turn_alike c fair;
      shared = shared_after P n w c fits fair;
      reach = reach_after horizon w c as_made;
      others = λ x g. others_linked x (is_fetching e₁) (is_fetching (exec c w).world.engine) g;
    }
