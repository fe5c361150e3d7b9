-- Lists of calls with the same story finish the same: what the engine sees and matches is the story told again at the direct lookup (`story_told`), and what
-- a step finishes is worked out of that alone.
use Rattle.refusal.specs.declared.Refusal.{Refusal}
use Rattle.refusal.specs.Refusal.{number_of, number_of_result}
use Prim.Native.Nat.{ℕ, ◌≤◌}
use mathlib.Core.Path.{◌≡◌, refl, sym, ap, subst, ◌∙◌}
use mathlib.Core.Bool.{Bool, true, false, not, cond, true≢false}
use mathlib.Core.List.{List, [], ◌∷◌, ◌++◌}
use lib.Dec.{eqb}
use lib.Ieee.{Float}
use lib.IntN.{ℤ}
use lib.ListN.{length}
use Rattle.std.specs.Prelude.{Result, Ok, Err, Option, Some, None}
use Rattle.pack.specs.declared.TileKey.{TileKey}
use Rattle.pack.specs.Grid.{is_point, key_of}
use Rattle.matcher.specs.declared.Matched.{Matched}
use Rattle.matcher.specs.Calls as Matching
use Rattle.matcher.specs.declared.Matcher.{Matcher}
use Rattle.matcher.specs.declared.Outcome as MatchOutcome
use Rattle.matcher.specs.declared.Outcome.TheVariants as Match
use Rattle.predict.specs.declared.Outcome as RoadOutcome
use Rattle.predict.specs.declared.Outcome.TheVariants as Roads
use Rattle.engine.specs.Follow as Followers
use Rattle.engine.specs.declared.Fix.{Fix}
use Rattle.engine.specs.declared.Follower.{Follower}
use Rattle.engine.specs.State as States
use Rattle.engine.specs.State.{unchanged, followed, engine_ok}
use Rattle.engine.specs.Calls as Engines
use Rattle.engine.specs.declared.Changed.{Changed}
use Rattle.engine.specs.declared.Engine.{Engine}
use Rattle.direct.specs.Lists as Calls
use Rattle.direct.specs.Lists.{World, Call, exec, start}
use Rattle.direct.specs.Finished as Shows
use Rattle.direct.specs.Finished.{Shown, is_match, is_road, step_shown, shown}
use Rattle.direct.specs.Direct.{Made, Told, Lookup, header_of, directly, Held, new_held, with_matcher, fixed, lost_held, forgotten, Worked, idle, stuck, empty_worked, match_worked, road_worked, current_worked, key_worked, fix_worked, step_worked_by, step_worked, match_held, road_held, update_worked, predict_worked, worked, Direct, applied, settled, pack_after, direct_exec}
use Rattle.direct.specs.Claims.{is_fetching, told_of, Fair, AllFair, made_of, Answers}
use Rattle.direct.specs.Story as Story
use Rattle.direct.specs.Story.{Event, taken, events_of, events, story, after, matcher_of, SameFinish, AllStories}
use Rattle.engine_states.proofs.Ways.{Same, lends_is}
use Rattle.direct.proofs.Beside.{deliver_left}
use Rattle.direct.proofs.Fit.{Fit, fit_after, fit_start}
use Rattle.direct.proofs.Seen.{told_by}
use Rattle.direct.proofs.Linked.{Linked, Follows, fixed_follows, lost_follows, StepTurn, step_turn, lent_turn, turn_alike}

-- ---- the story told again

-- the pack of the time, and what is held
pub record Past : Type 0 where
  pub pack : List ℕ
  pub held : Held

module _ (at : Lookup) (made : Made) where
  -- the fix that is held, matched
  pub rematched : Option Fix → Past → Held
  rematched None p = p.held
  rematched (Some f) p = with_matcher p.held (match_held at made p.pack p.held f).matcher

  abbrev pub retold_one : Event → Past → Past
  retold_one (Story.fixed f) p = record { pack = p.pack; held = fixed p.held f }
  retold_one Story.lost p = record { pack = p.pack; held = lost_held p.held }
  retold_one (Story.reset Q) p = record { pack = Q; held = forgotten p.held }
  retold_one Story.matched p = record { pack = p.pack; held = rematched p.held.sight.fix p }
  retold_one Story.cleared p = record { pack = p.pack; held = with_matcher p.held Matching.reset }

  unfoldable pub retold : List Event → Past → Past
  retold [] p = p
  retold (x ∷ xs) p = retold xs (retold_one x p)

  retold_more : (xs ys : List Event) (p : Past) → retold (xs ++ ys) p ≡ retold ys (retold xs p)
  unfolding retold
  retold_more [] ys p = refl
  retold_more (x ∷ xs) ys p = retold_more xs ys (retold_one x p)

  -- ---- a step

  module _ (P : List ℕ) (d : Held) where
    -- events that leave, told again, what a turn of the direct engine does
    record Retold (xs : List Event) (x : Worked) : Type 0 where
      pack : (retold xs (record { pack = P; held = d })).pack ≡ P
      matcher : (retold xs (record { pack = P; held = d })).held.matcher ≡ x.held.matcher
      sight : (retold xs (record { pack = P; held = d })).held.sight ≡ x.held.sight

    -- where nothing is told, nothing changes
    none_retold : (x : Worked) → x.held.matcher ≡ d.matcher → x.held.sight ≡ d.sight → Retold [] x
    unfolding retold
    none_retold x m q = record { pack = refl; matcher = sym m; sight = sym q }

    clear_retold : (x : Worked) → x.held.matcher ≡ Matching.reset → x.held.sight ≡ d.sight → Retold (Story.cleared ∷ []) x
    unfolding retold
    clear_retold x m q = record { pack = refl; matcher = sym m; sight = sym q }

    -- what a turn shows is what was told
    showing : (x : Worked) (s : Shown) → x.shown ≡ s → Retold (events_of x.shown) x → Retold (events_of s) x
    showing x s e r = subst (λ (z : Shown). Retold (events_of z) x) e r

    module _ (f : Fix) (is : d.sight.fix ≡ Some f) where
      abbrev next : Matcher
      next = (match_held at made P d f).matcher

      matched_held : rematched d.sight.fix (record { pack = P; held = d }) ≡ with_matcher d next
      unfolding rematched
      matched_held = ap (λ (x : Option Fix). rematched x (record { pack = P; held = d })) is

      match_retold : (x : Worked) → x.held.matcher ≡ next → x.held.sight ≡ d.sight → Retold (Story.matched ∷ []) x
      unfolding retold
      match_retold x m q = record {
        pack = refl;
        matcher = ap (λ (h : Held). h.matcher) matched_held ∙ sym m;
        sight = ap (λ (h : Held). h.sight) matched_held ∙ sym q;
      }

      -- a finished match
      found_by : (s : Shown) (x : Result MatchOutcome.Outcome Refusal) (road : Bool) → is_match s ≡ true → (match_worked x road d f next).shown ≡ s
          → Retold (events_of s) (match_worked x road d f next)
      found_by s (Ok (Match.Found y)) road m e = let x : Worked = match_worked (Ok (Match.Found y)) road d f next in showing x s e (match_retold x refl refl)
      found_by s (Ok Match.Nothing) true m e = let x : Worked = match_worked (Ok Match.Nothing) true d f next in showing x s e (match_retold x refl refl)
      found_by s (Ok Match.Nothing) false m e = let x : Worked = match_worked (Ok Match.Nothing) false d f next in showing x s e (match_retold x refl refl)
      found_by s (Ok (Match.Need key)) road m e = absurd (true≢false (sym (ap is_match e ∙ m)))
      found_by s (Err k) road m e = absurd (true≢false (sym (ap is_match e ∙ m)))

      -- a finished road
      road_by : (s : Shown) (x : Result RoadOutcome.Outcome Refusal) (found : Matched) (samples behind : List ℤ) → is_road s ≡ true
          → (road_worked x d f found samples behind).shown ≡ s → Retold (events_of s) (road_worked x d f found samples behind)
      road_by s (Ok (Roads.Road p)) found samples behind r e =
          let x : Worked = road_worked (Ok (Roads.Road p)) d f found samples behind in showing x s e (none_retold x refl refl)
      road_by s (Ok (Roads.Need key)) found samples behind r e = absurd (true≢false (sym (ap is_road e ∙ r)))
      road_by s (Ok Roads.Rematch) found samples behind r e =
          let x : Worked = road_worked (Ok Roads.Rematch) d f found samples behind in showing x s e (clear_retold x refl refl)
      road_by s (Err k) found samples behind r e = by (eqb (number_of k) 10) e
        where
          left : Bool → Worked
          left t = cond t (record { held = with_matcher d Matching.reset; shown = Shows.again 10 Matching.reset }) (stuck d)

          by : (t : Bool) → (left t).shown ≡ s → Retold (events_of s) (left t)
          by true e = showing (left true) s e (clear_retold (left true) refl refl)
          by false e = absurd (true≢false (sym (ap is_road e ∙ r)))

      current_by : (s : Shown) (x : Option Matched) → is_road s ≡ true → (current_worked at made P x d f).shown ≡ s → Retold (events_of s) (current_worked at made P x d f)
      current_by s None r e = absurd (true≢false (sym (ap is_road e ∙ r)))
      current_by s (Some found) r e =
          let x = road_held at made P found in road_by s x.answer found x.samples x.behind r e

      key_by : (s : Shown) (x : Option TileKey) → is_road s ≡ true → (key_worked at made P x d f).shown ≡ s → Retold (events_of s) (key_worked at made P x d f)
      key_by s (Some key) r e = current_by s d.matcher.current r e
      key_by s None r e = showing (empty_worked d f) s e (clear_retold (empty_worked d f) refl refl)

      fix_by : (s : Shown) (t : Told) (m r : Bool) → is_match s ≡ m → is_road s ≡ r → t.match ≡ m → t.road ≡ r → (fix_worked at made P t d f).shown ≡ s
          → Retold (events_of s) (fix_worked at made P t d f)
      fix_by s t true r p q u v e = rw u (found_by s (match_held at made P d f).answer t.road p (rw u at e))
      fix_by s t false true p q u v e = rw (u, v) (key_by s (key_of (header_of P) f.lat f.lon) q (rw (u, v) at e))
      fix_by s t false false p q u v e =
          rw (u, v) (showing (idle d) s (rw (u, v) at e) (none_retold (idle d) refl refl))

    step_by : (s : Shown) (t : Told) (x : Option Fix) → d.sight.fix ≡ x → t.match ≡ is_match s → t.road ≡ is_road s → (step_worked_by at made P x t d).shown ≡ s
        → Retold (events_of s) (step_worked_by at made P x t d)
    step_by s t None q m r e = showing (idle d) s e (none_retold (idle d) refl refl)
    step_by s t (Some f) q m r e = fix_by f q s t (is_match s) (is_road s) refl refl m r e

    step_retold : (s : Shown) (t : Told) → t.match ≡ is_match s → t.road ≡ is_road s → (step_worked at made P t d).shown ≡ s
        → Retold (events_of s) (step_worked at made P t d)
    unfolding step_worked
    step_retold s t m r e = step_by s t d.sight.fix refl m r e

-- ---- a call

-- the pack after a list of calls
unfoldable pub pack_of : List ℕ → List Call → World → List ℕ
pack_of P [] w = P
pack_of P (c ∷ cs) w = pack_of (pack_after P c (told_of w c)) cs (exec c w).world

module _ (at : Lookup) (n : ℕ) (horizon : Float) (answers : Answers n at) where
  -- the past of a world whose pack is P
  pub record Recalls (p : Past) (P : List ℕ) (w : World) : Type 0 where
    pub pack : p.pack ≡ P
    pub held : Follows p.held w.engine.follower

  abbrev again : World → Call → Past → Past
  again w c p = retold at (made_of n horizon) (events w c) p

  module _ (P : List ℕ) (w : World) (h : Held) (fit : Fit P n horizon w) (follows : Follows h w.engine.follower) where
    abbrev p₁ : Past
    p₁ = record { pack = P; held = h }

    abbrev e₁ : Engine
    e₁ = w.engine

    abbrev d₁ : Direct
    d₁ = record { held = h; waiting = [] }

    pub linked : Linked d₁ (is_fetching e₁) e₁.follower
    unfolding applied
    linked = record { sight = follows.sight; matcher = follows.matcher; none = λ r. refl }

    kept : (g : Follower) → g.sight ≡ e₁.follower.sight → g.matcher ≡ e₁.follower.matcher → Follows h g
    kept g s m = record { sight = follows.sight ∙ sym s; matcher = follows.matcher ∙ sym m }

    -- a step, or the lent-pack form, that shows s and leaves the engine m
    pub turn_recalls : (s : Shown) (m : Engine) (arena : List ℕ) → StepTurn at n horizon P w d₁ linked s m
        → Recalls (retold at (made_of n horizon) (events_of s) p₁) P (record { engine = m; arena = arena })
    unfolding applied
    turn_recalls s m arena t =
        let r = step_retold at (made_of n horizon) P h s (told_by false (is_fetching m) s) refl refl (t.shown false) in
        let f : Follows (step_worked at (made_of n horizon) P (told_by false (is_fetching m) s) h).held m.follower = holds (is_fetching m) _ (t.linked false) in
        record { pack = r.pack; held = record { sight = r.sight ∙ f.sight; matcher = r.matcher ∙ f.matcher } }
      where
        holds : (fetching : Bool) (x : Held) → Linked (settled fetching (record { held = x; waiting = [] })) (is_fetching m) m.follower → Follows x m.follower
        holds true x l = record { sight = l.sight; matcher = l.matcher }
        holds false x l = record { sight = l.sight; matcher = l.matcher }

    same_recalls : (m : Engine) (arena : List ℕ) → Same e₁.follower m.follower → Recalls p₁ P (record { engine = m; arena = arena })
    same_recalls m arena s = record { pack = refl; held = record { sight = follows.sight ∙ sym s.sight; matcher = follows.matcher ∙ sym s.matcher } }

    fix_recalls : (f : Fix) → Recalls (again w (Calls.fix f) p₁) P (exec (Calls.fix f) w).world
    unfolding events retold exec Engines.fix
    fix_recalls f = by (engine_ok e₁ (length w.arena)) (is_point f.lat f.lon)
      where
        left : Bool → Bool → Changed
        left s t = cond s (cond t (followed e₁ (Followers.fixed e₁.follower f)) (unchanged e₁ Refusal.OutOfRange)) (unchanged e₁ Refusal.BadState)

        by : (s t : Bool)
            → Recalls (retold at (made_of n horizon) (taken (number_of_result (left s t).answer) (Story.fixed f)) p₁) P
            (record { engine = (left s t).engine; arena = w.arena })
        by true true = record { pack = refl; held = fixed_follows h e₁.follower f follows.sight follows.matcher }
        by true false = record { pack = refl; held = follows }
        by false t = record { pack = refl; held = follows }

    lost_recalls : Recalls (again w Calls.lost p₁) P (exec Calls.lost w).world
    unfolding events retold exec Engines.lost
    lost_recalls = by (engine_ok e₁ (length w.arena))
      where
        left : Bool → Changed
        left t = cond t (followed e₁ (Followers.lost e₁.follower)) (unchanged e₁ Refusal.BadState)

        by : (t : Bool) → Recalls (retold at (made_of n horizon) (taken (number_of_result (left t).answer) Story.lost) p₁) P
            (record { engine = (left t).engine; arena = w.arena })
        by true = record { pack = refl; held = lost_follows h e₁.follower follows.sight }
        by false = record { pack = refl; held = follows }

    reset_recalls : (Q : List ℕ) → Recalls (again w (Calls.reset Q) p₁) (pack_after P (Calls.reset Q) (told_of w (Calls.reset Q))) (exec (Calls.reset Q) w).world
    unfolding events retold exec Engines.reset States.forgotten Followers.reset
    reset_recalls Q = by (engine_ok e₁ (length w.arena))
      where
        left : Bool → Changed
        left t = cond t (States.forgotten e₁) (unchanged e₁ Refusal.BadState)

        by : (t : Bool)
            → Recalls (retold at (made_of n horizon) (taken (number_of_result (left t).answer) (Story.reset Q)) p₁) (cond (not (eqb (number_of_result (left t).answer) 0)) P Q)
            (record { engine = (left t).engine; arena = w.arena })
        by true = record { pack = refl; held = record { sight = follows.sight; matcher = refl } }
        by false = record { pack = refl; held = follows }

    call_recalls : (c : Call) → Recalls (again w c p₁) (pack_after P c (told_of w c)) (exec c w).world
    unfolding events retold exec shown
    call_recalls (Calls.fix f) = fix_recalls f
    call_recalls Calls.lost = lost_recalls
    call_recalls (Calls.reset Q) = reset_recalls Q
    call_recalls Calls.step = turn_recalls _ _ w.arena (step_turn at n horizon P w d₁ linked fit.shared fit.reach answers)
    call_recalls (Calls.deliver failure bs) = same_recalls _ _ (deliver_left e₁ failure bs w.arena).follower
    call_recalls (Calls.step_from Q) = turn_recalls _ _ _ (lent_turn at n horizon P w d₁ linked fit.shared fit.reach answers Q (lends_is e₁ w.arena Q))
    call_recalls (Calls.read r) = record { pack = refl; held = follows }
    call_recalls (Calls.on_cache c) = record { pack = refl; held = follows }
    call_recalls (Calls.nearby x p) = record { pack = refl; held = follows }
    call_recalls (Calls.current m) = record { pack = refl; held = follows }
    call_recalls (Calls.update m x p heading) = record { pack = refl; held = follows }
    call_recalls (Calls.predict x m reach samples behind) = record { pack = refl; held = follows }

  -- ---- a list

  record Ends (p : Past) (P : List ℕ) (w : World) : Type 0 where
    recalls : Recalls p P w
    fit : Fit P n horizon w

  story_told : (cs : List Call) (P : List ℕ) (w : World) (p : Past) → Ends p P w → AllFair P cs w
      → Ends (retold at (made_of n horizon) (story cs w) p) (pack_of P cs w) (after cs w)
  unfolding AllFair story after retold pack_of
  story_told [] P w p e fair = e
  story_told (c ∷ cs) P w p e fair =
      let one : Recalls (again w c (record { pack = P; held = p.held })) (pack_after P c (told_of w c)) (exec c w).world
      = call_recalls P w p.held e.fit e.recalls.held c in
      let next : Past = again w c p in
      let past : p ≡ record { pack = P; held = p.held } = λ i. record { pack = e.recalls.pack i; held = p.held } in
      let ends : Ends next (pack_after P c (told_of w c)) (exec c w).world = record {
        recalls = subst (λ (x : Past). Recalls (again w c x) (pack_after P c (told_of w c)) (exec c w).world) (sym past) one;
        fit = fit_after P n horizon w c e.fit fair.0;
      } in
      subst (λ (x : Past). Ends x (pack_of (pack_after P c (told_of w c)) cs (exec c w).world) (after cs (exec c w).world))
      (sym (retold_more at (made_of n horizon) (events w c) (story cs (exec c w).world) p))
      (story_told cs (pack_after P c (told_of w c)) (exec c w).world next ends fair.1)

-- ---- two lists

module _ (at : Lookup) (made : Made) (P : List ℕ) (d : Held) where
  -- what is worked out goes by what was finished alone
  same_told : (t u : Told) → u.match ≡ t.match → u.road ≡ t.road → step_worked at made P u d ≡ step_worked at made P t d
  unfolding step_worked
  same_told t u m r = by d.sight.fix
    where
      by : (x : Option Fix) → step_worked_by at made P x u d ≡ step_worked_by at made P x t d
      by None = refl
      by (Some f) = rw (m, r)

  -- and a match by that it was finished
  match_told : (t u : Told) → t.match ≡ true → u.match ≡ true → matcher_of (step_worked at made P u d).shown ≡ matcher_of (step_worked at made P t d).shown
  unfolding step_worked
  match_told t u m r = by d.sight.fix
    where
      either : (f : Fix) (x : Result MatchOutcome.Outcome Refusal) (a b : Bool) (next : Matcher)
          → matcher_of (match_worked x b d f next).shown ≡ matcher_of (match_worked x a d f next).shown
      either f (Ok (Match.Found y)) a b next = refl
      either f (Ok Match.Nothing) true true next = refl
      either f (Ok Match.Nothing) true false next = refl
      either f (Ok Match.Nothing) false true next = refl
      either f (Ok Match.Nothing) false false next = refl
      either f (Ok (Match.Need key)) a b next = refl
      either f (Err k) a b next = refl

      by : (x : Option Fix) → matcher_of (step_worked_by at made P x u d).shown ≡ matcher_of (step_worked_by at made P x t d).shown
      by None = refl
      by (Some f) = rw (m, r) (either f (match_held at made P d f).answer t.road u.road (match_held at made P d f).matcher)

nothing_same : SameFinish Shows.nothing Shows.nothing
nothing_same = record { matches = λ p q. refl; all = λ p q. refl }

-- what is finished, where a match is, is x; and where a road is
match_alone : (x s t : Shown) → s ≡ cond (is_match s) x Shows.nothing → t ≡ cond (is_match t) x Shows.nothing → SameFinish s t
match_alone x s t a b = record {
  matches = λ p q. ap matcher_of ((b ∙ ap (λ (k : Bool). cond k x Shows.nothing) q) ∙ sym (a ∙ ap (λ (k : Bool). cond k x Shows.nothing) p));
  all = λ p q. b ∙ ap (λ (k : Bool). cond k x Shows.nothing) p ∙ sym a;
}

pub road_alone : (x s t : Shown) → s ≡ cond (is_road s) x Shows.nothing → t ≡ cond (is_road t) x Shows.nothing → SameFinish s t
road_alone x s t a b = record {
  matches = λ p q. ap matcher_of (is t b q ∙ sym (is s a p));
  all = λ p q. b ∙ ap (λ (k : Bool). cond k x Shows.nothing) q ∙ sym a;
}
  where
    is : (y : Shown) → y ≡ cond (is_road y) x Shows.nothing → is_match y ≡ true → y ≡ x
    is y e m = by (is_road y) e
      where
        by : (k : Bool) → y ≡ cond k x Shows.nothing → y ≡ x
        by true z = z
        by false z = absurd (true≢false (sym m ∙ ap is_match z))

module _ (at : Lookup) (n : ℕ) (horizon : Float) (answers : Answers n at) where
  -- two worlds of one pack that see and match the same
  pub finish_same : (P : List ℕ) (h : Held) (v w : World) → Fit P n horizon v → Fit P n horizon w → Follows h v.engine.follower
      → Follows h w.engine.follower
      → SameFinish (step_shown v.engine v.arena) (step_shown w.engine w.arena)
  finish_same P h v w f g a b =
      let s : Shown = step_shown v.engine v.arena in
      let t : Shown = step_shown w.engine w.arena in
      let x : Told = told_by false (is_fetching (Engines.step v.engine v.arena).engine) s in
      let y : Told = told_by false (is_fetching (Engines.step w.engine w.arena).engine) t in
      let one : (step_worked at (made_of n horizon) P x h).shown ≡ s
      = (step_turn at n horizon P v (record { held = h; waiting = [] }) (linked at n horizon answers P v h f a) f.shared f.reach answers).shown false in
      let two : (step_worked at (made_of n horizon) P y h).shown ≡ t
      = (step_turn at n horizon P w (record { held = h; waiting = [] }) (linked at n horizon answers P w h g b) g.shared g.reach answers).shown false in
      record {
        matches = λ p q. sym (ap matcher_of two) ∙ match_told at (made_of n horizon) P h x y p q ∙ ap matcher_of one;
        all = λ p q. sym two ∙ ap (λ (z : Worked). z.shown) (same_told at (made_of n horizon) P h x y p q) ∙ one;
      }

  -- what is seen and matched, as it is held
  abbrev seen_by : World → Held
  seen_by w = record { sight = w.engine.follower.sight; matcher = w.engine.follower.matcher; last = None }

  -- the direct engine's turn at a call shows what the call does
  alike : (P : List ℕ) (w : World) → Fit P n horizon w → (c : Call) → Fair P w c
      → (direct_exec at (made_of n horizon) P c (told_of w c) (record { held = seen_by w; waiting = [] })).shown ≡ shown w c
  alike P w f c fair =
      (turn_alike at n horizon P w (record { held = seen_by w; waiting = [] })
      (linked at n horizon answers P w (seen_by w) f (record { sight = refl; matcher = refl })) f.shared f.reach answers c fair).shown

  -- a call, where a step finishes equally
  pub calls_same : (P : List ℕ) (v w : World) → Fit P n horizon v → Fit P n horizon w
      → SameFinish (step_shown v.engine v.arena) (step_shown w.engine w.arena) → (c : Call) → Fair P v c → Fair P w c
      → SameFinish (shown v c) (shown w c)
  unfolding shown direct_exec worked
  calls_same P v w f g s (Calls.fix x) a b = nothing_same
  calls_same P v w f g s Calls.lost a b = nothing_same
  calls_same P v w f g s (Calls.reset Q) a b = nothing_same
  calls_same P v w f g s Calls.step a b = s
  calls_same P v w f g s (Calls.deliver failure bs) a b = nothing_same
  calls_same P v w f g s (Calls.step_from Q) a b = s
  calls_same P v w f g s (Calls.read r) a b = nothing_same
  calls_same P v w f g s (Calls.on_cache c) a b = nothing_same
  calls_same P v w f g s (Calls.nearby x p) a b = nothing_same
  calls_same P v w f g s (Calls.current m) a b = nothing_same
  calls_same P v w f g s (Calls.update m x p heading) a b =
      match_alone (update_worked at (made_of n horizon) P m x p heading) _ _ (sym (alike P v f (Calls.update m x p heading) a))
      (sym (alike P w g (Calls.update m x p heading) b))
  calls_same P v w f g s (Calls.predict x m reach samples behind) a b =
      road_alone (predict_worked at (made_of n horizon) P x m reach samples behind) _ _ (sym (alike P v f (Calls.predict x m reach samples behind) a))
      (sym (alike P w g (Calls.predict x m reach samples behind) b))

  -- from one past
  ends_same : (p : Past) (P Q : List ℕ) (v w : World) → Ends at n horizon answers p P v → Ends at n horizon answers p Q w → (c : Call) → Fair P v c
      → Fair Q w c → SameFinish (shown v c) (shown w c)
  ends_same p P Q v w a b c x y =
      let f : Fit p.pack n horizon v = subst (λ (z : List ℕ). Fit z n horizon v) (sym a.recalls.pack) a.fit in
      let g : Fit p.pack n horizon w = subst (λ (z : List ℕ). Fit z n horizon w) (sym b.recalls.pack) b.fit in
      calls_same p.pack v w f g (finish_same p.pack p.held v w f g a.recalls.held b.recalls.held) c
      (subst (λ (z : List ℕ). Fair z v c) (sym a.recalls.pack) x) (subst (λ (z : List ℕ). Fair z w c) (sym b.recalls.pack) y)

  start_ends : (P arena : List ℕ) → n ≤ 96 → Ends at n horizon answers (record { pack = P; held = new_held }) P (start n horizon arena)
  unfolding Followers.fresh
  start_ends P arena few =
      record { recalls = record { pack = refl; held = record { sight = refl; matcher = refl } }; fit = fit_start P n horizon arena few }

-- the call after a list is fair for the pack of that time
pub fair_last : (cs : List Call) (c : Call) (P : List ℕ) (w : World) → AllFair P (cs ++ (c ∷ [])) w → AllFair P cs w × Fair (pack_of P cs w) (after cs w) c
unfolding AllFair pack_of after
fair_last [] c P w fair = (tt, fair.0)
fair_last (x ∷ cs) c P w fair =
    let r : AllFair (pack_after P x (told_of w x)) cs (exec x w).world × Fair (pack_of (pack_after P x (told_of w x)) cs (exec x w).world) (after cs (exec x w).world) c
    = fair_last cs c (pack_after P x (told_of w x)) (exec x w).world fair.1 in
    ((fair.0, r.0), r.1)

pub all_stories : AllStories
all_stories n few horizon P one two cs ds c fair fair' same =
    let answers : Answers n (directly n) = λ Q key s. refl in
    let past : Past = record { pack = P; held = new_held } in
    let f = fair_last cs c P (start n horizon one) fair in
    let g = fair_last ds c P (start n horizon two) fair' in
    let a = story_told (directly n) n horizon answers cs P (start n horizon one) past (start_ends (directly n) n horizon answers P one few) f.0 in
    let b = story_told (directly n) n horizon answers ds P (start n horizon two) past (start_ends (directly n) n horizon answers P two few) g.0 in
    ends_same (directly n) n horizon answers (retold (directly n) (made_of n horizon) (story cs (start n horizon one)) past) _ _
    (after cs (start n horizon one)) (after ds (start n horizon two)) a
    (subst (λ (x : List Event). Ends (directly n) n horizon answers (retold (directly n) (made_of n horizon) x past)
    (pack_of P ds (start n horizon two)) (after ds (start n horizon two)))
    (sym same) b) c f.1 g.1
