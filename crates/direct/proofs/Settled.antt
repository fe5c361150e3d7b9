-- Two lists that settle before each fix. The idea: the story can be told again without saying where a match was cleared, since it goes with the first fix
-- that is off the map (`resettled`). The engine's matcher is then the one told, but for a match that the next step off the map will clear
-- (`Recounts`); a pack that has failed finishes nothing before the next reset.
use Rattle.refusal.specs.declared.Refusal.{Refusal}
use Rattle.refusal.specs.Refusal.{number_of_result}
use Prim.Native.Nat.{ℕ, ◌*◌, ◌≤◌}
use mathlib.Core.Path.{◌≡◌, refl, sym, ap, subst, ◌∙◌}
use mathlib.Core.Bool.{Bool, true, false, ◌&&◌, not, cond, true≢false}
use mathlib.Core.List.{List, [], ◌∷◌, ◌++◌}
use borrow.Author.Tests.{leb-true}
use lib.Dec.{eqb}
use lib.Ieee.{Float}
use lib.ListN.{length}
use Rattle.std.specs.Prelude.{Option, Some, None}
use Rattle.pack.specs.declared.TileKey.{TileKey}
use Rattle.pack.specs.Grid.{is_point, key_of}
use Rattle.pack.specs.declared.Header.{Header}
use Rattle.cache.specs.State.{state_ok, arena_ok}
use Rattle.cache.proofs.Below.{and_left, and_right}
use Rattle.cache.specs.declared.Pending.{Pending}
use Rattle.matcher.specs.Calls as Matching
use Rattle.matcher.specs.declared.Matcher.{Matcher}
use Rattle.predict.specs.declared.End.TheVariants as End
use Rattle.engine.specs.Fixes as Fixes
use Rattle.engine.specs.Follow as Followers
use Rattle.engine.specs.Follow.{is_matched}
use Rattle.engine.specs.declared.Fix.{Fix}
use Rattle.engine.specs.declared.Follower.{Follower}
use Rattle.engine.specs.State as States
use Rattle.engine.specs.State.{unchanged, followed, is_failed, header_ok, shared_ok, engine_ok}
use Rattle.engine.specs.Deliver.{After}
use Rattle.engine.specs.Calls as Engines
use Rattle.engine.specs.declared.Changed.{Changed}
use Rattle.engine.specs.declared.Engine.{Engine}
use Rattle.engine.specs.declared.Phase.{Phase}
use Rattle.engine.specs.declared.Sight.{Sight}
use Rattle.engine_states.proofs.KeptParts.{EngineOk, apart}
use Rattle.direct.specs.Lists as Calls
use Rattle.direct.specs.Lists.{World, Call, exec, start, Along}
use Rattle.direct.specs.Finished as Shows
use Rattle.direct.specs.Finished.{Shown, Road, is_match, is_road, open_task, phase_task, task_of, task_shown, step_shown, shown}
use Rattle.direct.specs.Direct.{Made, Told, Lookup, header_of, directly, Held, new_held, lost_held, forgotten, Worked, Direct, step_worked_by, step_worked, key_worked, no_road, pack_after}
use Rattle.cache_lists.specs.Claims.{Parsed}
use Rattle.cache_lists.proofs.Same.{header_is}
use Rattle.direct.specs.Claims.{is_fetching, told_of, Fair, AllFair, made_of, Answers}
use Rattle.direct.specs.Story as Story
use Rattle.direct.specs.Story.{Event, taken, events_of, events, story, after, SameFinish}
use Rattle.direct.specs.Settled.{is_settled, Settles, AllRested, without_cleared, AllSettled}
use Rattle.engine_states.proofs.Ways as Ways
use Rattle.engine_states.proofs.Ways.{Lends, lends_is}
use Rattle.direct.proofs.Safe.{written_after}
use Rattle.direct.proofs.Beside.{Beside, step_beside, deliver_left}
use Rattle.direct.proofs.Fit.{Fit, fit_after, fit_start}
use Rattle.direct.proofs.Seen.{told_by, idle_worked}
use Rattle.direct.proofs.Linked.{Follows, step_turn}
use Rattle.direct.proofs.Sound.{start_sound}
use Rattle.direct.proofs.Opened.{is_again, Stays, reset_fits}
use Rattle.direct.proofs.Always.{step_again, stays_after}
use Rattle.direct.proofs.Stories.{Past, rematched, retold, pack_of, Recalls, linked, turn_recalls, finish_same, calls_same, road_alone, fair_last}
use Rattle.direct.proofs.Due.{Clears, reset_clears, step_clears, deliver_clears, start_clears, not_due, is_outside, is_off, cleared, reset_cleared, cleared_twice, cleared_not, Rested, rests_rest, is_emptied, Sorts, quiet, on_map, leaves, step_sorts, step_rests, failed_delivers, Idles, settled_due, step_settles, call_idles}

-- ---- the story told again, without saying where a match was cleared

-- a fix off the map takes the match with it
abbrev refixed : Header → Held → Fix → Held
refixed h d f =
    cond (Fixes.is_same_place d.sight.fix f) d
    (record { sight = Fixes.seen d.sight f; matcher = cleared (is_off h (Some f)) d.matcher; last = d.last })

module _ (at : Lookup) (made : Made) where
  abbrev resettled_one : Event → Past → Past
  resettled_one (Story.fixed f) p = record { pack = p.pack; held = refixed (header_of p.pack) p.held f }
  resettled_one Story.lost p = record { pack = p.pack; held = lost_held p.held }
  resettled_one (Story.reset Q) p = record { pack = Q; held = forgotten p.held }
  resettled_one Story.matched p = record { pack = p.pack; held = rematched at made p.held.sight.fix p }
  resettled_one Story.cleared p = p

  unfoldable resettled : List Event → Past → Past
  resettled [] p = p
  resettled (x ∷ xs) p = resettled xs (resettled_one x p)

  resettled_more : (xs ys : List Event) (p : Past) → resettled (xs ++ ys) p ≡ resettled ys (resettled xs p)
  unfolding resettled
  resettled_more [] ys p = refl
  resettled_more (x ∷ xs) ys p = resettled_more xs ys (resettled_one x p)

  resettled_without : (xs : List Event) (p : Past) → resettled (without_cleared xs) p ≡ resettled xs p
  unfolding resettled without_cleared
  resettled_without [] p = refl
  resettled_without (Story.cleared ∷ xs) p = resettled_without xs p
  resettled_without (Story.fixed f ∷ xs) p = resettled_without xs (resettled_one (Story.fixed f) p)
  resettled_without (Story.lost ∷ xs) p = resettled_without xs (resettled_one Story.lost p)
  resettled_without (Story.reset Q ∷ xs) p = resettled_without xs (resettled_one (Story.reset Q) p)
  resettled_without (Story.matched ∷ xs) p = resettled_without xs (resettled_one Story.matched p)

  -- on the map nothing is cleared
  told_same : (s : Shown) → is_emptied s ≡ false → is_again s ≡ false → (p : Past) → resettled (events_of s) p ≡ retold at made (events_of s) p
  unfolding resettled retold
  told_same Shows.nothing a b p = refl
  told_same (Shows.matched m) a b p = refl
  told_same (Shows.unmatched m r) a b p = refl
  told_same (Shows.published r) a b p = refl
  told_same (Shows.again k m) a b p = absurd (true≢false b)
  told_same (Shows.emptied m r) a b p = absurd (true≢false a)
  told_same (Shows.updated x m) a b p = refl
  told_same (Shows.predicted x samples behind) a b p = refl
  told_same Shows.unanswered a b p = refl

  told_off : (t : Bool) (m : Matcher) (r : Road) (p : Past) → resettled (events_of (cond t (Shows.emptied m r) Shows.nothing)) p ≡ p
  unfolding resettled
  told_off true m r p = refl
  told_off false m r p = refl

-- ---- the engine beside the story

-- unless the pack has failed, the matcher is the one told, but for a match that a step off the map will clear
record Recounts (p : Past) (P : List ℕ) (e : Engine) : Type 0 where
  pack : p.pack ≡ P
  sight : p.held.sight ≡ e.follower.sight
  matcher : is_failed e.shared.phase ≡ false → p.held.matcher ≡ cleared (is_off (header_of P) e.follower.sight.fix) e.follower.matcher
  clears : Clears e.follower
  rested : Rested P e

-- an engine that sees and matches the same
tells_as : (p : Past) (P : List ℕ) (e n : Engine) → Recounts p P e → (is_failed n.shared.phase ≡ false → is_failed e.shared.phase ≡ false)
    → n.follower.sight ≡ e.follower.sight → n.follower.matcher ≡ e.follower.matcher → Clears n.follower → Rested P n → Recounts p P n
tells_as p P e n t u s m c r = record {
  pack = t.pack;
  sight = t.sight ∙ sym s;
  matcher = λ z. rw (s, m) (t.matcher (u z));
  clears = c;
  rested = r;
}

deliver_tells : (p : Past) (P : List ℕ) (e : Engine) (arena : List ℕ) (failure : ℕ) (bs : List ℕ) → Recounts p P e
    → Recounts p P (Engines.deliver e arena failure bs).engine
deliver_tells p P e arena failure bs t = by (is_failed e.shared.phase) refl
  where
    by : (f : Bool) → is_failed e.shared.phase ≡ f → Recounts p P (Engines.deliver e arena failure bs).engine
    by true f = subst (Recounts p P) (sym (failed_delivers e arena failure bs f)) t
    by false f =
        let l = deliver_left e failure bs arena in
        let n : Engine = (Engines.deliver e arena failure bs).engine in
        tells_as p P e n t (λ z. f) l.follower.sight l.follower.matcher (deliver_clears e arena failure bs t.clears)
        (rests_rest P e n l.follower l.due f t.rested)

-- ---- the engine in a state that 12 does not name, where its arena is as long as its pages

abbrev Able : List ℕ → ℕ → Float → World → Type 0
Able P n horizon w = n * 8192 ≤ length w.arena → Stays P n horizon w

module _ (P : List ℕ) (n : ℕ) (horizon : Float) (w : World) (fit : Fit P n horizon w) (able : Able P n horizon w) where
  long_of : engine_ok w.engine (length w.arena) ≡ true → n * 8192 ≤ length w.arena
  unfolding shared_ok
  long_of ok =
      let s = w.engine.shared in
      let parts : EngineOk s w.engine.follower (length w.arena) = apart w.engine (length w.arena) ok in
      let both : (arena_ok s.cache (length w.arena) && header_ok s) ≡ true = and_right (state_ok s.cache) _ parts.shared in
      rw fit.shared.cache.count at (leb-true (s.cache.pages.count * 8192) (length w.arena) (and_left _ (header_ok s) both))

  never_again : is_again (step_shown w.engine w.arena) ≡ false
  unfolding step_shown
  never_again = by (engine_ok w.engine (length w.arena)) refl
    where
      by : (t : Bool) → engine_ok w.engine (length w.arena) ≡ t → is_again (step_shown w.engine w.arena) ≡ false
      by true ok = step_again P n horizon w (able (long_of ok))
      by false bad = rw bad

  able_after : (c : Call) → Fair P w c → Able (pack_after P c (told_of w c)) n horizon (exec c w).world
  able_after c fair long = stays_after P n horizon w (able (rw (written_after w c).size at long)) c fair

-- ---- a call

module _ (at : Lookup) (n : ℕ) (horizon : Float) (answers : Answers n at) where
  abbrev told : List Event → Past → Past
  told xs p = resettled at (made_of n horizon) xs p

  module _ (P : List ℕ) (w : World) (p : Past) (fit : Fit P n horizon w) (able : Able P n horizon w) (t : Recounts p P w.engine) where
    abbrev e₁ : Engine
    e₁ = w.engine

    abbrev s₁ : Shown
    s₁ = step_shown e₁ w.arena

    abbrev n₁ : Engine
    n₁ = (Engines.step e₁ w.arena).engine

    abbrev h₁ : Header
    h₁ = header_of P

    header_same : e₁.shared.phase ≡ Phase.Ready → e₁.shared.header ≡ h₁
    header_same r = let parsed : Parsed P e₁.shared.header = rw r at fit.shared.header in sym (header_is parsed)

    beside : Beside e₁ n₁
    beside = step_beside e₁ w.arena

    stepped_clears : Clears n₁.follower
    stepped_clears = step_clears e₁ w.arena t.clears

    stepped_rested : Rested P n₁
    stepped_rested = step_rests P e₁ w.arena header_same t.clears t.rested

    -- the phase is the one before
    open_before : is_failed n₁.shared.phase ≡ false → is_failed e₁.shared.phase ≡ false
    open_before z = sym (ap is_failed beside.phase) ∙ z

    -- on the map the matcher is the one told
    on_follows : is_failed e₁.shared.phase ≡ false → is_off h₁ e₁.follower.sight.fix ≡ false → Follows p.held e₁.follower
    on_follows u o = record { sight = t.sight; matcher = t.matcher u ∙ ap (λ (k : Bool). cleared k e₁.follower.matcher) o }

    on_map_lem : is_failed e₁.shared.phase ≡ false → is_off h₁ e₁.follower.sight.fix ≡ false → is_emptied s₁ ≡ false → Recounts (told (events_of s₁) p) P n₁
    on_map_lem u o z =
        let f = on_follows u o in
        let made = made_of n horizon in
        let d : Direct = record { held = p.held; waiting = [] } in
        let r : Recalls at n horizon answers (retold at made (events_of s₁) (record { pack = P; held = p.held })) P (record { engine = n₁; arena = w.arena })
        = turn_recalls at n horizon answers P w p.held fit f s₁ n₁ w.arena
        (step_turn at n horizon P w d (linked at n horizon answers P w p.held fit f) fit.shared fit.reach answers) in
        let past : p ≡ record { pack = P; held = p.held } = λ i. record { pack = t.pack i; held = p.held } in
        let same : told (events_of s₁) p ≡ retold at made (events_of s₁) (record { pack = P; held = p.held })
        = told_same at made s₁ z (never_again P n horizon w fit able) p ∙ ap (retold at made (events_of s₁)) past in
        subst (λ (x : Past). Recounts x P n₁) (sym same) (record {
          pack = r.pack;
          sight = r.held.sight;
          matcher = λ q. r.held.matcher ∙ sym (ap (λ (k : Bool). cleared k n₁.follower.matcher) (ap (λ (x : Sight). is_off h₁ x.fix) beside.sight ∙ o));
          clears = stepped_clears;
          rested = stepped_rested;
        })

    -- off the map a match that is told no more goes
    off_map : is_failed e₁.shared.phase ≡ false → is_off h₁ e₁.follower.sight.fix ≡ true
        → n₁.follower.matcher ≡ cond (is_matched e₁.follower.ahead.matched) Matching.reset e₁.follower.matcher → Recounts p P n₁
    off_map u o q =
        let same : n₁.follower.matcher ≡ cleared true e₁.follower.matcher = q ∙ not_due e₁.follower t.clears (t.rested u o).0 in
        record {
          pack = t.pack;
          sight = t.sight ∙ sym beside.sight;
          matcher = λ z. t.matcher u ∙ ap (λ (k : Bool). cleared k e₁.follower.matcher) o ∙ sym (cleared_twice e₁.follower.matcher)
              ∙ sym (ap (cleared true) same)
              ∙ sym (ap (λ (k : Bool). cleared k n₁.follower.matcher) (ap (λ (x : Sight). is_off h₁ x.fix) beside.sight ∙ o));
          clears = stepped_clears;
          rested = stepped_rested;
        }

    step_tells : Recounts (told (events_of s₁) p) P n₁
    unfolding resettled
    step_tells = by (step_sorts P e₁ w.arena header_same)
      where
        by : Sorts (is_off h₁ e₁.follower.sight.fix) e₁ n₁ s₁ → Recounts (told (events_of s₁) p) P n₁
        by (quiet q m) =
            subst (λ (x : Shown). Recounts (told (events_of x) p) P n₁) (sym q) (tells_as p P e₁ n₁ t open_before beside.sight m stepped_clears stepped_rested)
        by (on_map u o z) = on_map_lem u o z
        by (leaves u o k m r q x) =
            subst (λ (y : Shown). Recounts (told (events_of y) p) P n₁) (sym q)
            (subst (λ (y : Past). Recounts y P n₁) (sym (told_off at (made_of n horizon) k m r p)) (off_map u o x))

    lent_tells : (Q : List ℕ) {r : After} → Lends e₁ w.arena Q r → Recounts (told (events_of s₁) p) P r.engine
    lent_tells Q (Ways.plain k) = step_tells
    lent_tells Q (Ways.asks offset len failure bs a fair) = deliver_tells _ P n₁ w.arena failure bs step_tells

    -- ---- fixes, losses and resets

    -- nothing is due where a fix is given
    fix_tells : (f : Fix) → is_settled e₁ ≡ true
        → Recounts (record { pack = p.pack; held = refixed (header_of p.pack) p.held f }) P (record { shared = e₁.shared; follower = Followers.fixed e₁.follower f })
    unfolding Followers.fixed Fixes.seen
    fix_tells f settled =
        subst (λ (x : Past). Recounts (record { pack = x.pack; held = refixed (header_of x.pack) x.held f }) P
        (record { shared = e₁.shared; follower = Followers.fixed e₁.follower f })) (sym past)
        (by (Fixes.is_same_place e₁.follower.sight.fix f))
      where
        past : p ≡ record { pack = P; held = record { sight = e₁.follower.sight; matcher = p.held.matcher; last = p.held.last } }
        past = λ i. record { pack = t.pack i; held = record { sight = t.sight i; matcher = p.held.matcher; last = p.held.last } }

        due : is_failed e₁.shared.phase ≡ false → (e₁.follower.due.matching ≡ false) × (e₁.follower.due.road ≡ false)
        due u = settled_due (is_failed e₁.shared.phase) e₁.follower.due.matching e₁.follower.due.road settled u

        -- so the matcher is the one told
        is : is_failed e₁.shared.phase ≡ false → p.held.matcher ≡ e₁.follower.matcher
        is u = t.matcher u ∙ cleared_not (is_off h₁ e₁.follower.sight.fix) e₁.follower.matcher (λ o. (t.rested u o).1 (due u).0)

        left : Bool → Held
        left k = cond k (record { sight = e₁.follower.sight; matcher = p.held.matcher; last = p.held.last })
            (record { sight = Fixes.seen e₁.follower.sight f; matcher = cleared (is_off h₁ (Some f)) p.held.matcher; last = p.held.last })

        next : Bool → Follower
        next k = cond k e₁.follower (record {
          sight = Fixes.seen e₁.follower.sight f;
          matcher = e₁.follower.matcher;
          due = Followers.match_asked e₁.follower.due;
          ahead = e₁.follower.ahead;
          failures = e₁.follower.failures;
          horizon_m = e₁.follower.horizon_m;
          steps = e₁.follower.steps;
        })

        by : (k : Bool) → Recounts (record { pack = P; held = left k }) P (record { shared = e₁.shared; follower = next k })
        by true = record { pack = refl; sight = refl; matcher = t.matcher; clears = t.clears; rested = t.rested }
        by false = record {
          pack = refl;
          sight = refl;
          matcher = λ u. ap (cleared (is_off h₁ (Some f))) (is u);
          clears = t.clears;
          rested = λ u o. ((due u).1, λ m. absurd (true≢false m));
        }

    lost_tells : Recounts (record { pack = p.pack; held = lost_held p.held }) P (record { shared = e₁.shared; follower = Followers.lost e₁.follower })
    unfolding Followers.lost
    lost_tells = record {
      pack = t.pack;
      sight = ap Fixes.lost t.sight;
      matcher = λ u. sym (reset_cleared (is_off h₁ (Fixes.lost e₁.follower.sight).fix));
      clears = reset_clears (Followers.lost e₁.follower) refl;
      rested = λ u o. (refl, λ m. refl);
    }

    reset_tells : (Q : List ℕ) → Recounts (record { pack = Q; held = forgotten p.held }) Q (States.forgotten e₁).engine
    unfolding States.forgotten Followers.reset
    reset_tells Q = record {
      pack = refl;
      sight = t.sight;
      matcher = λ u. sym (reset_cleared (is_off (header_of Q) e₁.follower.sight.fix));
      clears = reset_clears (Followers.reset e₁.follower) refl;
      rested = λ u o. (refl, λ m. refl);
    }

    fix_call : (f : Fix) → is_settled e₁ ≡ true → Recounts (told (events w (Calls.fix f)) p) P (exec (Calls.fix f) w).world.engine
    unfolding events resettled exec Engines.fix
    fix_call f settled = by (engine_ok e₁ (length w.arena)) (is_point f.lat f.lon)
      where
        left : Bool → Bool → Changed
        left a b = cond a (cond b (followed e₁ (Followers.fixed e₁.follower f)) (unchanged e₁ Refusal.OutOfRange)) (unchanged e₁ Refusal.BadState)

        by : (a b : Bool) → Recounts (told (taken (number_of_result (left a b).answer) (Story.fixed f)) p) P (left a b).engine
        by true true = fix_tells f settled
        by true false = t
        by false b = t

    lost_call : Recounts (told (events w Calls.lost) p) P (exec Calls.lost w).world.engine
    unfolding events resettled exec Engines.lost
    lost_call = by (engine_ok e₁ (length w.arena))
      where
        left : Bool → Changed
        left a = cond a (followed e₁ (Followers.lost e₁.follower)) (unchanged e₁ Refusal.BadState)

        by : (a : Bool) → Recounts (told (taken (number_of_result (left a).answer) Story.lost) p) P (left a).engine
        by true = lost_tells
        by false = t

    reset_call : (Q : List ℕ) → Recounts (told (events w (Calls.reset Q)) p) (pack_after P (Calls.reset Q) (told_of w (Calls.reset Q))) (exec (Calls.reset Q) w).world.engine
    unfolding events resettled exec Engines.reset States.forgotten
    reset_call Q = by (engine_ok e₁ (length w.arena))
      where
        left : Bool → Changed
        left a = cond a (States.forgotten e₁) (unchanged e₁ Refusal.BadState)

        by : (a : Bool) → Recounts (told (taken (number_of_result (left a).answer) (Story.reset Q)) p) (cond (not (eqb (number_of_result (left a).answer) 0)) P Q) (left a).engine
        by true = reset_tells Q
        by false = t

    call_tells : (c : Call) → Settles w c → Recounts (told (events w c) p) (pack_after P c (told_of w c)) (exec c w).world.engine
    unfolding events resettled exec shown
    call_tells (Calls.fix f) settled = fix_call f (settled f refl)
    call_tells Calls.lost settled = lost_call
    call_tells (Calls.reset Q) settled = reset_call Q
    call_tells Calls.step settled = step_tells
    call_tells (Calls.deliver failure bs) settled = deliver_tells p P e₁ w.arena failure bs t
    call_tells (Calls.step_from Q) settled = lent_tells Q (lends_is e₁ w.arena Q)
    call_tells (Calls.read r) settled = t
    call_tells (Calls.on_cache c) settled = tells_as p P e₁ _ t (λ z. z) refl refl t.clears t.rested
    call_tells (Calls.nearby h q) settled = t
    call_tells (Calls.current m) settled = t
    call_tells (Calls.update m h q heading) settled = tells_as p P e₁ _ t (λ z. z) refl refl t.clears t.rested
    call_tells (Calls.predict h m reach samples behind) settled = tells_as p P e₁ _ t (λ z. z) refl refl t.clears t.rested

  -- ---- a list

  record Ends (p : Past) (P : List ℕ) (w : World) : Type 0 where
    tells : Recounts p P w.engine
    idles : Idles w.engine
    fit : Fit P n horizon w
    able : Able P n horizon w

  list_told : (cs : List Call) (P : List ℕ) (w : World) (p : Past) → Ends p P w → AllFair P cs w → Along Settles cs w
      → Ends (told (story cs w) p) (pack_of P cs w) (after cs w)
  unfolding AllFair Along story after resettled pack_of
  list_told [] P w p e fair settled = e
  list_told (c ∷ cs) P w p e fair settled =
      let ends : Ends (told (events w c) p) (pack_after P c (told_of w c)) (exec c w).world = record {
        tells = call_tells P w p e.fit e.able e.tells c settled.0;
        idles = call_idles w c settled.0 (never_again P n horizon w e.fit e.able) e.idles;
        fit = fit_after P n horizon w c e.fit fair.0;
        able = able_after P n horizon w e.fit e.able c fair.0;
      } in
      subst (λ (x : Past). Ends x (pack_of (pack_after P c (told_of w c)) cs (exec c w).world) (after cs (exec c w).world))
      (sym (resettled_more at (made_of n horizon) (events w c) (story cs (exec c w).world) p))
      (list_told cs (pack_after P c (told_of w c)) (exec c w).world (told (events w c) p) ends fair.1 settled.1)

  start_ends : (P arena : List ℕ) → n ≤ 96 → Ends (record { pack = P; held = new_held }) P (start n horizon arena)
  unfolding Followers.fresh
  start_ends P arena few = record {
    tells = record {
      pack = refl;
      sight = refl;
      matcher = λ u. refl;
      clears = start_clears n horizon arena;
      rested = λ u o. (refl, λ m. refl);
    };
    idles = record { both = λ u. refl; none = λ z. refl };
    fit = fit_start P n horizon arena few;
    able = λ long. record { fit = fit_start P n horizon arena few; ok = start_sound n horizon arena few long; long = long; found = reset_fits P n };
  }

  -- ---- two lists

  -- what a step shows, worked out from what the engine sees and matches
  abbrev seen_by : World → Held
  seen_by w = record { sight = w.engine.follower.sight; matcher = w.engine.follower.matcher; last = None }

  shown_by : (P : List ℕ) (w : World) → Fit P n horizon w
      → let s = step_shown w.engine w.arena in
      (step_worked at (made_of n horizon) P (told_by false (is_fetching (Engines.step w.engine w.arena).engine) s) (seen_by w)).shown ≡ s
  shown_by P w fit =
      (step_turn at n horizon P w (record { held = seen_by w; waiting = [] })
      (linked at n horizon answers P w (seen_by w) fit (record { sight = refl; matcher = refl })) fit.shared fit.reach answers).shown false

  -- neither a match nor a road
  neither : (P : List ℕ) (w : World) → Fit P n horizon w → is_match (step_shown w.engine w.arena) ≡ false → is_road (step_shown w.engine w.arena) ≡ false
      → step_shown w.engine w.arena ≡ Shows.nothing
  neither P w fit m r =
      sym (shown_by P w fit) ∙ ap (λ (x : Worked). x.shown) (idle_worked at n horizon P _ (seen_by w) m r)

  -- a pack that has failed
  failed_shows : (e : Engine) (arena : List ℕ) → is_failed e.shared.phase ≡ true → step_shown e arena ≡ Shows.nothing
  unfolding step_shown task_of
  failed_shows e arena f = by (engine_ok e (length arena)) e.shared.cache.pending
    where
      unready : (y : Phase) → is_failed y ≡ true → task_shown (phase_task y e) e arena (Engines.step e arena).engine ≡ Shows.nothing
      unready Phase.Failed q = refl
      unready Phase.Ready q = absurd (true≢false (sym q))
      unready Phase.Unread q = absurd (true≢false (sym q))

      by : (t : Bool) (x : Pending) → cond t (task_shown (open_task x e) e arena (Engines.step e arena).engine) Shows.nothing ≡ Shows.nothing
      by false x = refl
      by true Pending.Nothing = unready e.shared.phase f
      by true Pending.Header = refl
      by true (Pending.Entry key) = refl
      by true Pending.Chunk = refl

  -- off the map a road is emptied, or nothing is finished
  abbrev off_shown : Option Fix → Shown
  off_shown None = Shows.nothing
  off_shown (Some f) = Shows.emptied Matching.reset (no_road f End.MapEdge)

  off_worked : (P : List ℕ) (x : Told) (d : Held) → is_off (header_of P) d.sight.fix ≡ true → x.match ≡ false
      → (step_worked at (made_of n horizon) P x d).shown ≡ cond x.road (off_shown d.sight.fix) Shows.nothing
  unfolding step_worked
  off_worked P x d o m = by d.sight.fix o
    where
      outside : (f : Fix) (k : Option TileKey) → is_outside k ≡ true → (key_worked at (made_of n horizon) P k d f).shown ≡ Shows.emptied Matching.reset (no_road f End.MapEdge)
      outside f (Some key) q = absurd (true≢false (sym q))
      outside f None q = refl

      road : (f : Fix) (t : Bool) → is_outside (key_of (header_of P) f.lat f.lon) ≡ true
          → (cond t (key_worked at (made_of n horizon) P (key_of (header_of P) f.lat f.lon) d f) (record { held = d; shown = Shows.nothing })).shown
          ≡ cond t (Shows.emptied Matching.reset (no_road f End.MapEdge)) Shows.nothing
      road f true q = outside f (key_of (header_of P) f.lat f.lon) q
      road f false q = refl

      by : (y : Option Fix) → is_off (header_of P) y ≡ true → (step_worked_by at (made_of n horizon) P y x d).shown ≡ cond x.road (off_shown y) Shows.nothing
      by None q = absurd (true≢false (sym q))
      by (Some f) q = rw m (road f x.road q)

  off_shows : (P : List ℕ) (w : World) (p : Past) → Ends p P w → is_off (header_of P) w.engine.follower.sight.fix ≡ true
      → let s = step_shown w.engine w.arena in s ≡ cond (is_road s) (off_shown w.engine.follower.sight.fix) Shows.nothing
  off_shows P w p e o =
      sym (shown_by P w e.fit) ∙ off_worked P _ (seen_by w) o (by (step_sorts P w.engine w.arena (header_same P w p e.fit e.able e.tells)))
    where
      either : (t : Bool) (m : Matcher) (r : Road) → is_match (cond t (Shows.emptied m r) Shows.nothing) ≡ false
      either true m r = refl
      either false m r = refl

      by : {m : Engine} {s : Shown} → Sorts (is_off (header_of P) w.engine.follower.sight.fix) w.engine m s → is_match s ≡ false
      by (quiet q m) = ap is_match q
      by (on_map u z q) = absurd (true≢false (sym o ∙ z))
      by (leaves u z t m r q x) = ap is_match q ∙ either t m r

  -- two worlds of one pack, of which one past tells
  ends_finish : (p : Past) (P : List ℕ) (v w : World) → Ends p P v → Ends p P w → SameFinish (step_shown v.engine v.arena) (step_shown w.engine w.arena)
  ends_finish p P v w a b = by (is_failed v.engine.shared.phase) (is_failed w.engine.shared.phase) (is_off (header_of P) v.engine.follower.sight.fix) refl refl refl
    where
      sights : w.engine.follower.sight ≡ v.engine.follower.sight
      sights = sym b.tells.sight ∙ a.tells.sight

      by : (f g o : Bool) → is_failed v.engine.shared.phase ≡ f → is_failed w.engine.shared.phase ≡ g
          → is_off (header_of P) v.engine.follower.sight.fix ≡ o
          → SameFinish (step_shown v.engine v.arena) (step_shown w.engine w.arena)
      by true g o x y z =
          let none = failed_shows v.engine v.arena x in
          record {
            matches = λ m k. absurd (true≢false (sym m ∙ ap is_match none));
            all = λ m r. neither P w b.fit (m ∙ ap is_match none) (r ∙ ap is_road none) ∙ sym none;
          }
      by false true o x y z =
          let none = failed_shows w.engine w.arena y in
          record {
            matches = λ m k. absurd (true≢false (sym k ∙ ap is_match none));
            all = λ m r. none ∙ sym (neither P v a.fit (sym m ∙ ap is_match none) (sym r ∙ ap is_road none));
          }
      by false false false x y z =
          finish_same at n horizon answers P p.held v w a.fit b.fit (on_follows P v p a.fit a.able a.tells x z)
          (on_follows P w p b.fit b.able b.tells y (ap (λ (k : Sight). is_off (header_of P) k.fix) sights ∙ z))
      by false false true x y z =
          let there = ap (λ (k : Sight). is_off (header_of P) k.fix) sights ∙ z in
          road_alone (off_shown v.engine.follower.sight.fix) _ _ (off_shows P v p a z)
          (off_shows P w p b there
          ∙ ap (λ (k : Sight). cond (is_road (step_shown w.engine w.arena)) (off_shown k.fix) Shows.nothing) sights)

  ends_calls : (p : Past) (P Q : List ℕ) (v w : World) → Ends p P v → Ends p Q w → (c : Call) → Fair P v c → Fair Q w c → SameFinish (shown v c) (shown w c)
  ends_calls p P Q v w a b c x y =
      let same : Q ≡ P = sym b.tells.pack ∙ a.tells.pack in
      let b' : Ends p P w = subst (λ (z : List ℕ). Ends p z w) same b in
      calls_same at n horizon answers P v w a.fit b'.fit (ends_finish p P v w a b') c x (subst (λ (z : List ℕ). Fair z w c) same y)

pub all_settled : AllSettled
all_settled n few horizon P one two cs ds c fair fair' settled settled' same =
    let answers : Answers n (directly n) = λ Q key s. refl in
    let made : Made = made_of n horizon in
    let past : Past = record { pack = P; held = new_held } in
    let v = start n horizon one in
    let w = start n horizon two in
    let f = fair_last cs c P v fair in
    let g = fair_last ds c P w fair' in
    let a = list_told (directly n) n horizon answers cs P v past (start_ends (directly n) n horizon answers P one few) f.0 settled in
    let b = list_told (directly n) n horizon answers ds P w past (start_ends (directly n) n horizon answers P two few) g.0 settled' in
    let told_is : resettled (directly n) made (story ds w) past ≡ resettled (directly n) made (story cs v) past
    = sym (resettled_without (directly n) made (story ds w) past) ∙ ap (λ (x : List Event). resettled (directly n) made x past) (sym same)
    ∙ resettled_without (directly n) made (story cs v) past in
    ends_calls (directly n) n horizon answers (resettled (directly n) made (story cs v) past) _ _ (after cs v) (after ds w) a
    (subst (λ (x : Past). Ends (directly n) n horizon answers x (pack_of P ds w) (after ds w)) told_is b) c f.1 g.1

pub all_rested : AllRested
all_rested n few horizon arena P cs fair settled =
    let answers : Answers n (directly n) = λ Q key s. refl in
    let past : Past = record { pack = P; held = new_held } in
    let w = after cs (start n horizon arena) in
    let e = list_told (directly n) n horizon answers cs P (start n horizon arena) past (start_ends (directly n) n horizon answers P arena few) fair settled in
    step_settles w.engine w.arena e.idles (pack_of P cs (start n horizon arena))
    (header_same (directly n) n horizon answers _ w _ e.fit e.able e.tells) e.tells.rested
