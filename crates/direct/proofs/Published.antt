-- What stands published: of each call, by the ways that it goes (`publishes`), and of the matcher (`call_holds`); then along a list (`all_published`,
-- `all_read`), and by `all_direct` beside the direct engine (`all_read_direct`).
use Rattle.refusal.specs.Refusal.{number_of}
use Rattle.refusal.specs.declared.Refusal.{Refusal}
use Rattle.std.specs.Prelude.{Option, Some, None, Result, Ok, Err}
use Prim.Native.Nat.{ℕ, ◌+◌}
use mathlib.Core.Path.{◌≡◌, refl, sym, ap, subst, ◌∙◌}
use mathlib.Core.Bool.{Bool, true, false, cond}
use mathlib.Core.List.{List, [], ◌∷◌}
use mathlib.Core.Logic.{◌⊎◌, inl, inr}
use native.Mathlib.Omega.{arith}
use lib.Dec.{eqb}
use lib.ListN.{length}
use Rattle.pack.specs.Grid.{is_point}
use Rattle.matcher.specs.declared.Matched.{Matched}
use Rattle.matcher.specs.Calls as Matching
use Rattle.matcher.specs.Gather as Gather
use Rattle.matcher.specs.declared.Matcher.{Matcher}
use Rattle.matcher.specs.declared.Outcome as MatchOutcome
use Rattle.matcher.specs.declared.Outcome.TheVariants as Match
use Rattle.predict.specs.declared.End.TheVariants as End
use Rattle.predict.specs.declared.Outcome as RoadOutcome
use Rattle.predict.specs.declared.Outcome.TheVariants as Roads
use Rattle.engine.specs.Fixes as Fixes
use Rattle.engine.specs.Publish as Publish
use Rattle.engine.specs.Publish.{nothing_ahead, with_match, without_match}
use Rattle.engine.specs.Follow as Followers
use Rattle.engine.specs.Follow.{is_matched}
use Rattle.engine.specs.declared.Ahead.{Ahead}
use Rattle.engine.specs.declared.Fix.{Fix}
use Rattle.engine.specs.declared.Follower.{Follower}
use Rattle.engine.specs.State.{refused, forgotten, engine_ok}
use Rattle.engine.specs.Work as Work
use Rattle.engine.specs.Work.{counted, may_ask, match_ended_by, road_ended_by, published}
use Rattle.engine.specs.Deliver.{After, arrived}
use Rattle.engine.specs.Steps.{stepped}
use Rattle.engine.specs.Calls as Engines
use Rattle.engine.specs.Calls.{ahead_in}
use Rattle.engine.specs.declared.Changed.{Changed}
use Rattle.engine.specs.declared.Engine.{Engine}
use Rattle.engine.specs.declared.Status.TheVariants as Status
use Rattle.engine.specs.declared.Stepped.{Stepped}
use Rattle.direct.specs.Lists as Calls
use Rattle.direct.specs.Lists.{World, Call, exec, start, Along}
use Rattle.direct.specs.Finished as Shows
use Rattle.direct.specs.Finished.{road_of, Road, Shown, Task, task_of, match_of, road_at, match_shown, road_shown, task_shown, step_shown, shown}
use Rattle.direct.specs.Claims.{shows}
use Rattle.direct.specs.Story.{after}
use Rattle.direct.specs.Published.{FinishedRoad, FinishedMatch, AtLimit, Publishes, kept, finished, by_lost, by_reset, at_limit, lent_at_limit, AllPublished, Among, blank, memory_of, Read, is_blank, was_finished, is_memory, AllRead, AllReadDirect}
use Rattle.engine_states.proofs.Ways as Ways
use Rattle.engine_states.proofs.Ways.{Works, Steps, Lends, step_is, lends_is}
use Rattle.direct.proofs.Beside.{deliver_left, match_asks_lem, road_asks_lem}
use Rattle.direct.proofs.Seen.{made_current}
use Rattle.direct.proofs.Linked.{fetch_silent}
use Rattle.direct.proofs.Claim.{all_direct}

-- ---- a step

-- what a step that shows s leaves published, with that many pages
pub data Leaves (e : Engine) (s : Shown) (pages : ℕ) (a : Ahead) : Type 0 where
  stays : a ≡ e.follower.ahead → Leaves e s pages a
  ends : FinishedRoad (road_of a) s → Leaves e s pages a
  limit : AtLimit e pages a → Leaves e s pages a

-- and the matcher that it leaves
pub data LeavesMatcher (e : Engine) (s : Shown) (m : Matcher) : Type 0 where
  holds : m ≡ e.follower.matcher → LeavesMatcher e s m
  makes : FinishedMatch m.current s → LeavesMatcher e s m
  clears : m.current ≡ None → LeavesMatcher e s m

module _ (e : Engine) (arena : List ℕ) where
  abbrev a₁ : Ahead
  a₁ = e.follower.ahead

  abbrev f₁ : Follower
  f₁ = counted e.follower

  either_stays : {s : Shown} {pages : ℕ} (t : Bool) (x y : Stepped) → x.engine.follower.ahead ≡ a₁ → y.engine.follower.ahead ≡ a₁
      → Leaves e s pages (cond t x y).engine.follower.ahead
  either_stays true x y p q = stays p
  either_stays false x y p q = stays q

  -- off the map
  leaves_off : (f : Fix) → let n : Engine = record { shared = e.shared; follower = Work.off_map f₁ f } in
      Leaves e (task_shown (Shows.off_map f) e arena n) e.shared.cache.pages.count n.follower.ahead
  unfolding Work.off_map
  leaves_off f = by (is_matched a₁.matched) _
    where
      left : Bool → Ahead
      left t = cond t (without_match a₁ f.at_ms End.MapEdge) a₁

      by : (t : Bool) (m : Matcher) → Leaves e (cond t (Shows.emptied m (road_of (left t))) Shows.nothing) e.shared.cache.pages.count (left t)
      by true m = ends refl
      by false m = stays refl

  -- a match
  leaves_match : (f : Fix) (x : Result MatchOutcome.Outcome Refusal) → (match_of e arena f).answer ≡ x
      → let n = (match_ended_by x e f₁ f (match_of e arena f)).engine in
      Leaves e (match_shown x e n) n.shared.cache.pages.count n.follower.ahead
  unfolding Work.matched
  leaves_match f (Ok (Match.Found m)) q = by (match_of e arena f).matcher.current (made_current e arena f (Ok (Match.Found m)) q refl)
    where
      by : (c : Option Matched) → Gather.outcome c ≡ Ok (Match.Found m) → {s : Shown} {pages : ℕ}
          → Leaves e s pages (Work.matched_by c f₁ (match_of e arena f).matcher f).ahead
      by None z = let o : ◌≡◌ {A = ℕ} 0 1 = cc in absurd (omega arith)
      by (Some g) z = stays refl
  leaves_match f (Ok Match.Nothing) q = by (match_of e arena f).matcher.current (made_current e arena f (Ok Match.Nothing) q refl) (is_matched a₁.matched) refl
    where
      by : (c : Option Matched) → Gather.outcome c ≡ Ok Match.Nothing → (t : Bool) → is_matched a₁.matched ≡ t → {pages : ℕ}
          → let g = Work.matched_by c f₁ (match_of e arena f).matcher f in
          Leaves e (cond t (Shows.unmatched g.matcher (road_of g.ahead)) (Shows.matched g.matcher)) pages g.ahead
      by None z true r = ends refl
      by None z false r = stays (ap (λ (t : Bool). cond t (without_match a₁ f.at_ms End.Uncertain) a₁) r)
      by (Some g) z t r = let o : ◌≡◌ {A = ℕ} 0 1 = cc in absurd (omega arith)
  leaves_match f (Ok (Match.Need key)) q = stays (match_asks_lem f₁ (match_of e arena f).cache.pages.count key).ahead
  leaves_match f (Err number) q = stays refl

  -- a road
  leaves_road : (f : Fix) (found : Matched) (x : Result RoadOutcome.Outcome Refusal) → Works e f → e.follower.matcher.current ≡ Some found
      → let n = (road_ended_by x e f₁ f found (road_at e arena found)).engine in
      Leaves e (road_shown x n) n.shared.cache.pages.count n.follower.ahead
  unfolding published with_match
  leaves_road f found (Ok (Roads.Road p)) w c = ends refl
  leaves_road f found (Ok (Roads.Need key)) w c =
      by (may_ask e.follower.due (road_at e arena found).predicted.cache.pages.count) refl
    where
      pages : ℕ
      pages = (road_at e arena found).predicted.cache.pages.count

      by : (t : Bool) → may_ask e.follower.due pages ≡ t
          → Leaves e Shows.nothing pages (cond t (Work.with_due f₁ (Work.asking f₁.due key (f₁.due.reloads + 1))) (published f₁ a₁ f found Work.no_road)).ahead
      by true q = stays refl
      by false q = limit (record { asked = q; fix = f; found = found; newest = w.fix; current = c; memory = refl })
  leaves_road f found (Ok Roads.Rematch) w c = stays refl
  leaves_road f found (Err number) w c = either_stays (eqb (number_of number) 10) _ _ refl refl

  steps_leave : {x : Task} {s : Stepped} → Steps e arena x s
      → Leaves e (task_shown x e arena s.engine) s.engine.shared.cache.pages.count s.engine.follower.ahead
  unfolding arrived
  steps_leave (Ways.repeats o) = stays refl
  steps_leave (Ways.fails failed) = stays refl
  steps_leave (Ways.opens p offset len o f r) = stays refl
  steps_leave (Ways.spoils key i r s p) = stays refl
  steps_leave (Ways.arrives key n r s f) = stays refl
  steps_leave (Ways.rests f s d idle) = stays s.ahead
  steps_leave (Ways.leaves f w o) = leaves_off f
  steps_leave (Ways.matches f key w k due) = leaves_match f (match_of e arena f).answer refl
  steps_leave (Ways.follows f key found w k c) = leaves_road f found (road_at e arena found).predicted.answer w c

  step_leaves : let n = (Engines.step e arena).engine in Leaves e (step_shown e arena) n.shared.cache.pages.count n.follower.ahead
  unfolding step_shown Engines.step
  step_leaves = by (engine_ok e (length arena)) refl
    where
      left : Bool → Stepped
      left t = cond t (stepped e arena) (refused e Refusal.BadState)

      by : (t : Bool) → engine_ok e (length arena) ≡ t → Leaves e (cond t (task_shown (task_of e) e arena (left t).engine) Shows.nothing) (left t).engine.shared.cache.pages.count
          (left t).engine.follower.ahead
      by true ok = steps_leave (step_is e arena ok)
      by false ok = stays refl

  -- ---- and the matcher

  holds_off : (f : Fix) {s : Shown} → LeavesMatcher e s (Work.off_map f₁ f).matcher
  unfolding Work.off_map
  holds_off f {s} = by (is_matched a₁.matched)
    where
      by : (t : Bool) → LeavesMatcher e s (cond t Matching.reset e.follower.matcher)
      by true = clears refl
      by false = holds refl

  holds_match : (f : Fix) (x : Result MatchOutcome.Outcome Refusal) → let n = (match_ended_by x e f₁ f (match_of e arena f)).engine in
      LeavesMatcher e (match_shown x e n) n.follower.matcher
  holds_match f (Ok (Match.Found m)) = makes refl
  holds_match f (Ok Match.Nothing) = by (is_matched a₁.matched) _ _
    where
      by : (t : Bool) (m : Matcher) (r : Road) → LeavesMatcher e (cond t (Shows.unmatched m r) (Shows.matched m)) m
      by true m r = makes refl
      by false m r = makes refl
  holds_match f (Ok (Match.Need key)) = holds (match_asks_lem f₁ (match_of e arena f).cache.pages.count key).matcher
  holds_match f (Err number) = holds refl

  holds_road : (f : Fix) (found : Matched) (x : Result RoadOutcome.Outcome Refusal) → let n = (road_ended_by x e f₁ f found (road_at e arena found)).engine in
      LeavesMatcher e (road_shown x n) n.follower.matcher
  unfolding published
  holds_road f found (Ok (Roads.Road p)) = holds refl
  holds_road f found (Ok (Roads.Need key)) = holds (road_asks_lem f₁ (road_at e arena found).predicted.cache.pages.count f found key).matcher
  holds_road f found (Ok Roads.Rematch) = clears refl
  holds_road f found (Err number) = by (eqb (number_of number) 10)
    where
      by : (t : Bool) {s : Shown}
          → LeavesMatcher e s (cond t (Work.ended e (road_at e arena found).predicted.cache (Work.rematch f₁) (Ok Status.Working)) (refused e number)).engine.follower.matcher
      by true = clears refl
      by false = holds refl

  steps_hold : {x : Task} {s : Stepped} → Steps e arena x s → LeavesMatcher e (task_shown x e arena s.engine) s.engine.follower.matcher
  unfolding arrived
  steps_hold (Ways.repeats o) = holds refl
  steps_hold (Ways.fails failed) = holds refl
  steps_hold (Ways.opens p offset len o f r) = holds refl
  steps_hold (Ways.spoils key i r s p) = holds refl
  steps_hold (Ways.arrives key n r s f) = holds refl
  steps_hold (Ways.rests f s d idle) = holds s.matcher
  steps_hold (Ways.leaves f w o) = holds_off f
  steps_hold (Ways.matches f key w k due) = holds_match f (match_of e arena f).answer
  steps_hold (Ways.follows f key found w k c) = holds_road f found (road_at e arena found).predicted.answer

  step_holds : LeavesMatcher e (step_shown e arena) (Engines.step e arena).engine.follower.matcher
  unfolding step_shown Engines.step
  step_holds = by (engine_ok e (length arena)) refl
    where
      left : Bool → Stepped
      left t = cond t (stepped e arena) (refused e Refusal.BadState)

      by : (t : Bool) → engine_ok e (length arena) ≡ t → LeavesMatcher e (cond t (task_shown (task_of e) e arena (left t).engine) Shows.nothing) (left t).engine.follower.matcher
      by true ok = steps_hold (step_is e arena ok)
      by false ok = holds refl

-- ---- a call

either_follower : (R : Follower → Type 0) (t : Bool) (x y : Follower) → R x → R y → R (cond t x y)
either_follower R true x y p q = p
either_follower R false x y p q = q

either_changed : (R : Follower → Type 0) (t : Bool) (x y : Changed) → R x.engine.follower → R y.engine.follower → R (cond t x y).engine.follower
either_changed R true x y p q = p
either_changed R false x y p q = q

module _ (w : World) where
  abbrev e₁ : Engine
  e₁ = w.engine

  abbrev On : Call → Follower → Type 0
  On c g = Publishes w c g.ahead

  abbrev Held : Follower → Type 0
  Held g = LeavesMatcher e₁ Shows.nothing g.matcher

  -- what a call keeps, and what the step of one leaves
  stays_as : (c : Call) {a : Ahead} → a ≡ e₁.follower.ahead → Publishes w c a
  stays_as c q = subst (Publishes w c) (sym q) kept

  step_publishes : Publishes w Calls.step (Engines.step e₁ w.arena).engine.follower.ahead
  unfolding shown exec
  step_publishes = by (step_leaves e₁ w.arena)
    where
      by : {a : Ahead} → Leaves e₁ (step_shown e₁ w.arena) (Engines.step e₁ w.arena).engine.shared.cache.pages.count a → Publishes w Calls.step a
      by (stays q) = stays_as Calls.step q
      by (ends q) = finished q
      by (limit l) = at_limit l

  lent_publishes : (Q : List ℕ) {r : After} → Lends e₁ w.arena Q r → (exec (Calls.step_from Q) w).world.engine ≡ r.engine
      → Publishes w (Calls.step_from Q) r.engine.follower.ahead
  unfolding shown
  lent_publishes Q (Ways.plain t) same = by (step_leaves e₁ w.arena)
    where
      by : {a : Ahead} → Leaves e₁ (step_shown e₁ w.arena) (Engines.step e₁ w.arena).engine.shared.cache.pages.count a
          → Publishes w (Calls.step_from Q) a
      by (stays q) = stays_as (Calls.step_from Q) q
      by (ends q) = finished q
      by {a} (limit l) = lent_at_limit (subst (λ (x : Engine). AtLimit e₁ x.shared.cache.pages.count a) (sym same) l)
  lent_publishes Q (Ways.asks offset len failure bs a fair) same =
      stays_as (Calls.step_from Q)
      ((deliver_left (Engines.step e₁ w.arena).engine failure bs w.arena).follower.ahead ∙ (fetch_silent e₁ w.arena a).keeps.ahead)

  fixed_publishes : (f : Fix) → (Followers.fixed e₁.follower f).ahead ≡ e₁.follower.ahead
  unfolding Followers.fixed
  fixed_publishes f =
      either_follower (λ (x : Follower). x.ahead ≡ e₁.follower.ahead) (Fixes.is_same_place e₁.follower.sight.fix f) _ _ refl refl

  lost_publishes : Publishes w Calls.lost (Followers.lost e₁.follower).ahead
  unfolding Followers.lost
  lost_publishes = by (is_matched e₁.follower.ahead.matched)
    where
      by : (t : Bool) → Publishes w Calls.lost (cond t (Publish.forgotten e₁.follower.ahead) e₁.follower.ahead)
      by true = by_lost
      by false = kept

  reset_publishes : (P : List ℕ) → Publishes w (Calls.reset P) (Followers.reset e₁.follower).ahead
  unfolding Followers.reset
  reset_publishes P = by_reset

  pub publishes : (c : Call) → Publishes w c (exec c w).world.engine.follower.ahead
  unfolding exec Engines.fix Engines.lost Engines.reset forgotten
  publishes (Calls.fix f) =
      either_changed (On (Calls.fix f)) (engine_ok e₁ (length w.arena)) _ _
      (either_changed (On (Calls.fix f)) (is_point f.lat f.lon) _ _ (stays_as (Calls.fix f) (fixed_publishes f)) kept) kept
  publishes Calls.lost = either_changed (On Calls.lost) (engine_ok e₁ (length w.arena)) _ _ lost_publishes kept
  publishes (Calls.reset P) = either_changed (On (Calls.reset P)) (engine_ok e₁ (length w.arena)) _ _ (reset_publishes P) kept
  publishes Calls.step = step_publishes
  publishes (Calls.deliver failure bs) = stays_as (Calls.deliver failure bs) (deliver_left e₁ failure bs w.arena).follower.ahead
  publishes (Calls.step_from Q) = lent_publishes Q (lends_is e₁ w.arena Q) refl
  publishes (Calls.read r) = kept
  publishes (Calls.on_cache c) = kept
  publishes (Calls.nearby h p) = kept
  publishes (Calls.current m) = kept
  publishes (Calls.update m h p heading) = kept
  publishes (Calls.predict h m horizon samples behind) = kept

  -- ---- and the matcher

  fixed_holds : (f : Fix) → (Followers.fixed e₁.follower f).matcher ≡ e₁.follower.matcher
  unfolding Followers.fixed
  fixed_holds f =
      either_follower (λ (x : Follower). x.matcher ≡ e₁.follower.matcher) (Fixes.is_same_place e₁.follower.sight.fix f) _ _ refl refl

  lent_holds : (Q : List ℕ) {r : After} → Lends e₁ w.arena Q r → LeavesMatcher e₁ (step_shown e₁ w.arena) r.engine.follower.matcher
  lent_holds Q (Ways.plain t) = step_holds e₁ w.arena
  lent_holds Q (Ways.asks offset len failure bs a fair) =
      holds ((deliver_left (Engines.step e₁ w.arena).engine failure bs w.arena).follower.matcher ∙ (fetch_silent e₁ w.arena a).keeps.matcher)

  call_holds : (c : Call) → LeavesMatcher e₁ (shown w c) (exec c w).world.engine.follower.matcher
  unfolding shown exec Engines.fix Engines.lost Engines.reset forgotten Followers.lost Followers.reset
  call_holds (Calls.fix f) =
      either_changed Held (engine_ok e₁ (length w.arena)) _ _
      (either_changed Held (is_point f.lat f.lon) _ _ (holds (fixed_holds f)) (holds refl)) (holds refl)
  call_holds Calls.lost = either_changed Held (engine_ok e₁ (length w.arena)) _ _ (clears refl) (holds refl)
  call_holds (Calls.reset P) = either_changed Held (engine_ok e₁ (length w.arena)) _ _ (clears refl) (holds refl)
  call_holds Calls.step = step_holds e₁ w.arena
  call_holds (Calls.deliver failure bs) = holds (deliver_left e₁ failure bs w.arena).follower.matcher
  call_holds (Calls.step_from Q) = lent_holds Q (lends_is e₁ w.arena Q)
  call_holds (Calls.read r) = holds refl
  call_holds (Calls.on_cache c) = holds refl
  call_holds (Calls.nearby h p) = holds refl
  call_holds (Calls.current m) = holds refl
  call_holds (Calls.update m h p heading) = holds refl
  call_holds (Calls.predict h m horizon samples behind) = holds refl

-- ---- along a list

along : (cs : List Call) (w : World) → Along (λ w c. Publishes w c (exec c w).world.engine.follower.ahead) cs w
unfolding Along
along [] w = tt
along (c ∷ cs) w = (publishes w c, along cs (exec c w).world)

pub all_published : AllPublished
all_published n horizon arena cs = along cs (start n horizon arena)

-- what is published, and what is matched
abbrev on_ahead : World → Road
on_ahead w = road_of w.engine.follower.ahead

abbrev on_match : World → Option Matched
on_match w = w.engine.follower.matcher.current

-- a match that is none
no_match : {A : Type 0} (found : Matched) → Some found ≡ None → A
no_match found q = let z : ◌≡◌ {A = ℕ} 0 1 = cc in absurd (omega arith)

-- what is published after a list: as it was, none, one that the list finished, or the Memory answer for a match held before it or finished in it
pub data Reads (held : Option Matched) (before r : Road) (ss : List Shown) : Type 0 where
  same : r ≡ before → Reads held before r ss
  none : r ≡ blank → Reads held before r ss
  among : Among (FinishedRoad r) ss → Reads held before r ss
  remembers : (at : ℕ) (found : Matched) → r ≡ memory_of at found → (Some found ≡ held) ⊎ Among (FinishedMatch (Some found)) ss
      → Reads held before r ss

limit_reads : (e : Engine) (pages : ℕ) (a : Ahead) (ss : List Shown) → AtLimit e pages a
    → Reads e.follower.matcher.current (road_of e.follower.ahead) (road_of a) ss
unfolding with_match
limit_reads e pages a ss l = remembers l.fix.at_ms l.found (ap (λ (x : Ahead). road_of x) l.memory) (inl (sym l.current))

publishes_reads : (w : World) (c : Call) (a : Ahead) (ss : List Shown) → Publishes w c a → Reads (on_match w) (on_ahead w) (road_of a) (shown w c ∷ ss)
unfolding Among nothing_ahead
publishes_reads w c a ss kept = same refl
publishes_reads w c a ss (finished f) = among (inl f)
publishes_reads w c a ss by_lost = none refl
publishes_reads w c a ss by_reset = none refl
publishes_reads w c a ss (at_limit l) = limit_reads w.engine _ a _ l
publishes_reads w c a ss (lent_at_limit l) = limit_reads w.engine _ a _ l

remembers_on : (w : World) (c : Call) (r : Road) (ss : List Shown) (at : ℕ) (found : Matched) → r ≡ memory_of at found
    → Some found ≡ on_match (exec c w).world → LeavesMatcher w.engine (shown w c) (exec c w).world.engine.follower.matcher
    → Reads (on_match w) (on_ahead w) r (shown w c ∷ ss)
unfolding Among
remembers_on w c r ss at found q h (holds k) = remembers at found q (inl (h ∙ ap (λ (m : Matcher). m.current) k))
remembers_on w c r ss at found q h (makes k) = remembers at found q (inr (inl (subst (λ (x : Option Matched). FinishedMatch x (shown w c)) (sym h) k)))
remembers_on w c r ss at found q h (clears k) = no_match found (h ∙ k)

reads_along : (cs : List Call) (w : World) → Reads (on_match w) (on_ahead w) (on_ahead (after cs w)) (shows cs w)
unfolding after shows Among
reads_along [] w = same refl
reads_along (c ∷ cs) w = by (reads_along cs (exec c w).world)
  where
    next : World
    next = (exec c w).world

    r : Road
    r = on_ahead (after cs next)

    by : Reads (on_match next) (on_ahead next) r (shows cs next) → Reads (on_match w) (on_ahead w) r (shown w c ∷ shows cs next)
    by (same q) = rw q (publishes_reads w c next.engine.follower.ahead (shows cs next) (publishes w c))
    by (none q) = none q
    by (among a) = among (inr a)
    by (remembers at found q (inl h)) = remembers_on w c r (shows cs next) at found q h (call_holds w c)
    by (remembers at found q (inr a)) = remembers at found q (inr (inr a))

pub all_read : AllRead
unfolding Engines.ahead Followers.fresh
all_read n horizon arena cs = by (engine_ok w.engine (length w.arena)) (reads_along cs (start n horizon arena))
  where
    w : World
    w = after cs (start n horizon arena)

    answer : Bool → Result Ahead Refusal
    answer t = cond t (Ok w.engine.follower.ahead) (Err Refusal.BadState)

    by : (t : Bool) → Reads None blank (on_ahead w) (shows cs (start n horizon arena))
        → Read (shows cs (start n horizon arena)) (road_of (ahead_in (answer t)))
    by true (same q) = is_blank q
    by true (none q) = is_blank q
    by true (among a) = was_finished a
    by true (remembers at found q (inl h)) = no_match found h
    by true (remembers at found q (inr a)) = is_memory at found q a
    by false p = is_blank refl

pub all_read_direct : AllReadDirect
all_read_direct n few horizon arena P cs fair = rw (all_direct n few horizon arena P cs fair) (all_read n horizon arena cs)
