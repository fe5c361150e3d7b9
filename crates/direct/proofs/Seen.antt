-- A step finishes what the direct engine works out from what it holds, and leaves the same matcher. By the ways that a step goes: a match or a road that
-- finishes at the cache's look gives the same at every look that agrees with it.
use Rattle.refusal.specs.Refusal.{number_of}
use Rattle.refusal.specs.declared.Refusal.{Refusal}
use Prim.Native.Nat.{ℕ}
use mathlib.Core.Path.{◌≡◌, refl, sym, ap, ◌∙◌}
use mathlib.Core.Bool.{Bool, true, false, cond, true≢false}
use mathlib.Core.List.{List}
use native.Mathlib.Omega.{arith}
use borrow.Author.Tests.{eqb-true}
use lib.Dec.{eqb}
use lib.Ieee.{Float}
use lib.IntN.{pos}
use lib.ListN.{replicate}
use Rattle.std.specs.Prelude.{Result, Ok, Err, Option, Some, None}
use Rattle.num.specs.Order.{min}
use Rattle.pack.specs.Grid.{key_of}
use Rattle.pack.specs.declared.Header.{Header}
use Rattle.pack.specs.declared.TileKey.{TileKey}
use Rattle.geo.specs.Flat.{whole}
use Rattle.cache.specs.Direct.{Agree, look}
use Rattle.matcher.specs.declared.Heading.{Heading}
use Rattle.matcher.specs.declared.Kept.{Kept}
use Rattle.matcher.specs.declared.Matched.{Matched}
use Rattle.matcher.specs.Calls as Matching
use Rattle.matcher.specs.Gather as Gather
use Rattle.matcher.specs.Relied as MatchRelied
use Rattle.matcher.specs.declared.Matcher.{Matcher}
use Rattle.matcher.specs.declared.Outcome as MatchOutcome
use Rattle.matcher.specs.declared.Outcome.TheVariants as Match
use Rattle.matcher.specs.declared.gather.Ending.{Ending}
use Rattle.matcher.proofs.AgreeLaws.{update_agrees}
use Rattle.predict.specs.Predict as Predict
use Rattle.predict.specs.Relied as RoadRelied
use Rattle.predict.specs.declared.Outcome as RoadOutcome
use Rattle.predict.specs.declared.Outcome.TheVariants as Roads
use Rattle.predict.proofs.RoadLaws.{predict_agrees}
use Rattle.predict.specs.declared.End.TheVariants as End
use Rattle.engine.specs.Fixes.{place_of}
use Rattle.engine.specs.Publish.{with_match, without_match}
use Rattle.engine.specs.Follow.{is_matched}
use Rattle.engine.specs.declared.Ahead.{Ahead}
use Rattle.engine.specs.declared.Fix.{Fix}
use Rattle.engine.specs.State as States
use Rattle.engine.specs.Work as Work
use Rattle.engine.specs.Work.{counted, match_ended_by, road_ended_by, published}
use Rattle.engine.specs.Deliver.{arrived}
use Rattle.engine.specs.declared.Engine.{Engine}
use Rattle.engine.specs.declared.Status.TheVariants as Status
use Rattle.engine.specs.declared.Stepped.{Stepped}
use Rattle.direct.proofs.OneNumber.{bad_start}
use Rattle.direct.specs.Finished.{Shown, nothing, is_match, is_road, road_of, Task, match_of, road_at, match_shown, road_shown, task_shown}
use Rattle.direct.specs.Finished as Shows
use Rattle.direct.specs.Direct.{Made, Told, Lookup, header_of, Held, with_matcher, Worked, idle, match_worked, road_worked, empty_worked, current_worked, key_worked, fix_worked, step_worked_by, step_worked, match_held, road_held}
use Rattle.direct.specs.Claims.{made_of}
use Rattle.engine_states.proofs.Ways as Ways
use Rattle.engine_states.proofs.Ways.{OffGrid, Works, Steps}
use Rattle.direct.proofs.Beside.{match_asks_lem, road_asks_lem, match_holds}

-- what is told of a call that shows s
abbrev pub told_by : Bool → Bool → Shown → Told
told_by refused fetching s = record { refused = refused; fetching = fetching; match = is_match s; road = is_road s }

-- a match that was made is the matcher's current one
pub made_current : (e : Engine) (arena : List ℕ) (f : Fix) (x : Result MatchOutcome.Outcome Refusal) → (match_of e arena f).answer ≡ x → MatchRelied.is_finished x ≡ true
    → Gather.outcome (match_of e arena f).matcher.current ≡ x
unfolding Gather.updated Gather.update_over
made_current e arena f =
    let r = Gather.run_over (look e.shared.cache arena e.shared.header.tile) e.follower.matcher e.shared.header (place_of f)
    e.follower.sight.heading in
    by r.end r.kept e.follower.matcher e.follower.sight.heading
  where
    by : (end : Ending) (k : Kept) (m : Matcher) (heading : Heading) (x : Result MatchOutcome.Outcome Refusal) → (Gather.matching_by end k m heading).answer ≡ x
        → MatchRelied.is_finished x ≡ true → Gather.outcome (Gather.matching_by end k m heading).matcher.current ≡ x
    by Ending.All k m heading x q fin = q
    by (Ending.Need key) k m heading x q fin = absurd (true≢false (sym fin ∙ ap MatchRelied.is_finished (sym q)))
    by Ending.Stale k m heading x q fin = absurd (true≢false (sym fin ∙ ap MatchRelied.is_finished (sym q)))

module _ (at : Lookup) (n : ℕ) (horizon : Float) (P : List ℕ) where
  abbrev made : Made
  made = made_of n horizon

  -- ---- the direct engine's step, by what it is told

  pub idle_worked : (t : Told) (d : Held) → t.match ≡ false → t.road ≡ false → step_worked at made P t d ≡ idle d
  unfolding step_worked
  idle_worked t d m r = by d.sight.fix
    where
      by : (x : Option Fix) → step_worked_by at made P x t d ≡ idle d
      by None = refl
      by (Some f) = rw (m, r)

  at_fix : (t : Told) (d : Held) (f : Fix) → d.sight.fix ≡ Some f → step_worked at made P t d ≡ fix_worked at made P t d f
  unfolding step_worked
  at_fix t d f e = ap (λ (x : Option Fix). step_worked_by at made P x t d) e

  -- ---- an engine that has the pack's header, and what a look at its cache settles is what `at` gives

  module _ (e : Engine) (arena : List ℕ) (header : e.shared.header ≡ header_of P) (reach : e.follower.horizon_m ≡ min horizon (whole 10000))
      (count : e.shared.cache.pages.count ≡ n) (agree : Agree (look e.shared.cache arena e.shared.header.tile) (at P))
      (last : Option Matched) (refused fetching : Bool) where
    -- what the direct engine holds where nothing waits
    abbrev held : Held
    held = record { sight = e.follower.sight; matcher = e.follower.matcher; last = last }

    -- a step that shows s and leaves the matcher m
    pub record Agrees (s : Shown) (m : Matcher) : Type 0 where
      pub shown : (step_worked at made P (told_by refused fetching s) held).shown ≡ s
      pub matcher : (step_worked at made P (told_by refused fetching s) held).held.matcher ≡ m
      pub sight : (step_worked at made P (told_by refused fetching s) held).held.sight ≡ e.follower.sight

    agrees_by : {s : Shown} {m : Matcher} (x : Worked) → step_worked at made P (told_by refused fetching s) held ≡ x → x.shown ≡ s → x.held.matcher ≡ m
        → x.held.sight ≡ e.follower.sight → Agrees s m
    agrees_by x q a b c = record {
      shown = ap (λ (y : Worked). y.shown) q ∙ a;
      matcher = ap (λ (y : Worked). y.held.matcher) q ∙ b;
      sight = ap (λ (y : Worked). y.held.sight) q ∙ c;
    }

    nothing_agrees : {m : Matcher} → e.follower.matcher ≡ m → Agrees nothing m
    nothing_agrees q = agrees_by (idle held) (idle_worked (told_by refused fetching nothing) held refl refl) refl q refl

    -- ---- off the map

    off_grid : (f : Fix) (t : Told) → Works e f → OffGrid (key_of e.shared.header f.lat f.lon) → t.match ≡ false → t.road ≡ true
        → step_worked at made P t held ≡ empty_worked held f
    off_grid f t w o m r =
        at_fix t held f w.fix ∙ rw (m, r) (by (key_of (header_of P) f.lat f.lon) (rw header at o))
      where
        by : (x : Option TileKey) → OffGrid x → key_worked at made P x held f ≡ empty_worked held f
        by (Some key) o = absurd o
        by None o = refl

    leaves_agrees : (f : Fix) → Works e f → OffGrid (key_of e.shared.header f.lat f.lon)
        → Agrees (task_shown (Shows.off_map f) e arena (record { shared = e.shared; follower = Work.off_map (counted e.follower) f }))
        (Work.off_map (counted e.follower) f).matcher
    unfolding Work.off_map without_match
    leaves_agrees f w o = by (is_matched e.follower.ahead.matched)
      where
        left : Bool → Ahead
        left t = cond t (without_match e.follower.ahead f.at_ms End.MapEdge) e.follower.ahead

        cleared : Bool → Matcher
        cleared t = cond t Matching.reset e.follower.matcher

        by : (t : Bool) → Agrees (cond t (Shows.emptied (cleared t) (road_of (left t))) nothing) (cleared t)
        by true = agrees_by (empty_worked held f) (off_grid f _ w o refl refl) refl refl refl
        by false = nothing_agrees refl

    -- ---- a match

    abbrev match_at : Fix → Gather.Matching
    match_at f =
        Gather.update_over (look e.shared.cache arena e.shared.header.tile) e.follower.matcher e.shared.header (place_of f)
        e.follower.sight.heading

    match_is : (f : Fix) → MatchRelied.is_finished (match_at f).answer ≡ true → match_held at made P held f ≡ match_at f
    match_is f fin =
        ap (λ (h : Header). Gather.update_over (at P) e.follower.matcher h (place_of f) e.follower.sight.heading) (sym header)
        ∙ update_agrees (look e.shared.cache arena e.shared.header.tile) (at P) agree e.follower.matcher e.shared.header (place_of f)
        e.follower.sight.heading fin

    match_worked_lem : (f : Fix) (t : Told) (x : Result MatchOutcome.Outcome Refusal) → Works e f → (match_at f).answer ≡ x → MatchRelied.is_finished x ≡ true → t.match ≡ true
        → step_worked at made P t held ≡ match_worked x t.road held f (match_at f).matcher
    match_worked_lem f t x w a fin m =
        at_fix t held f w.fix
        ∙ (rw m (ap (λ (y : Gather.Matching). match_worked y.answer t.road held f y.matcher) (match_is f (rw a fin))))
        ∙ ap (λ (y : Result MatchOutcome.Outcome Refusal). match_worked y t.road held f (match_at f).matcher) a

    -- finding none leaves no match
    none_current : (f : Fix) → (match_at f).answer ≡ Ok Match.Nothing → (match_at f).matcher.current ≡ None
    unfolding Gather.updated
    none_current f a = by (match_at f).matcher.current (made_current e arena f (Ok Match.Nothing) a refl)
      where
        by : (x : Option Matched) → Gather.outcome x ≡ Ok Match.Nothing → x ≡ None
        by None q = refl
        by (Some m) q = let z : ◌≡◌ {A = ℕ} 0 1 = cc in absurd (omega arith)

    -- what is published of it
    abbrev emptied : Fix → Bool → Ahead
    emptied f t = cond t (without_match e.follower.ahead f.at_ms End.Uncertain) e.follower.ahead

    none_ahead : (f : Fix) → (match_at f).matcher.current ≡ None
        → (Work.matched (counted e.follower) (match_at f).matcher f).ahead ≡ emptied f (is_matched e.follower.ahead.matched)
    unfolding Work.matched
    none_ahead f q = ap (λ (x : Option Matched). (Work.matched_by x (counted e.follower) (match_at f).matcher f).ahead) q

    none_agrees : (f : Fix) → Works e f → (match_at f).answer ≡ Ok Match.Nothing → (t : Bool)
        → Agrees (cond t (Shows.unmatched (match_at f).matcher (road_of (emptied f t))) (Shows.matched (match_at f).matcher)) (match_at f).matcher
    unfolding without_match
    none_agrees f w a true =
        let t : Told = told_by refused fetching (Shows.unmatched (match_at f).matcher (road_of (emptied f true))) in
        agrees_by _ (match_worked_lem f t (Ok Match.Nothing) w a refl refl) refl refl refl
    none_agrees f w a false =
        agrees_by _ (match_worked_lem f (told_by refused fetching (Shows.matched (match_at f).matcher)) (Ok Match.Nothing) w a refl refl) refl refl refl

    matches_by : (f : Fix) (x : Result MatchOutcome.Outcome Refusal) → Works e f → (match_at f).answer ≡ x
        → let s = match_ended_by x e (counted e.follower) f (match_of e arena f) in Agrees (match_shown x e s.engine) s.engine.follower.matcher
    unfolding Gather.updated
    matches_by f (Ok (Match.Found m)) w a =
        let h = match_holds (counted e.follower) (match_at f).matcher f in
        rw h.matcher (agrees_by _ (match_worked_lem f _ (Ok (Match.Found m)) w a refl refl) refl refl refl)
    matches_by f (Ok Match.Nothing) w a =
        rw ((match_holds (counted e.follower) (match_at f).matcher f).matcher, none_ahead f (none_current f a))
        (none_agrees f w a (is_matched e.follower.ahead.matched))
    matches_by f (Ok (Match.Need key)) w a = nothing_agrees (sym (match_asks_lem (counted e.follower) _ key).matcher)
    matches_by f (Err number) w a = nothing_agrees refl

    -- ---- a road

    abbrev road_over : Matched → Predict.Forecast (List TileKey)
    road_over found =
        Predict.predict_over (look e.shared.cache arena e.shared.header.tile) e.shared.cache.pages.count e.shared.header found
        e.follower.horizon_m
        (replicate 501 (pos 0)) (replicate 11 (pos 0))

    road_is : (found : Matched) → RoadRelied.is_finished (road_over found).answer ≡ true → road_held at made P found ≡ road_over found
    road_is found fin =
        rw (← header, ← reach, ← count)
        (predict_agrees (look e.shared.cache arena e.shared.header.tile) (at P) agree e.shared.cache.pages.count e.shared.header found
        e.follower.horizon_m (replicate 501 (pos 0)) (replicate 11 (pos 0)) fin)

    road_worked_lem : (f : Fix) (key : TileKey) (found : Matched) (t : Told) (x : Result RoadOutcome.Outcome Refusal) → Works e f
        → key_of e.shared.header f.lat f.lon ≡ Some key
        → e.follower.matcher.current ≡ Some found → (road_over found).answer ≡ x → RoadRelied.is_finished x ≡ true → t.match ≡ false → t.road ≡ true
        → step_worked at made P t held ≡ road_worked x held f found (road_over found).samples (road_over found).behind
    road_worked_lem f key found t x w k c a fin m r =
        at_fix t held f w.fix
        ∙ rw (m, r) (ap (λ (y : Option TileKey). key_worked at made P y held f) (ap (λ (h : Header). key_of h f.lat f.lon) (sym header) ∙ k))
        ∙ ap (λ (y : Option Matched). current_worked at made P y held f) c
        ∙ ap (λ (y : Predict.Forecast (List TileKey)). road_worked y.answer held f found y.samples y.behind) (road_is found (rw a fin))
        ∙ ap (λ (y : Result RoadOutcome.Outcome Refusal). road_worked y held f found (road_over found).samples (road_over found).behind) a

    -- 10 clears the matcher; any other number is the late 12
    refused_agrees : (f : Fix) (key : TileKey) (found : Matched) (number : Refusal) → Works e f → key_of e.shared.header f.lat f.lon ≡ Some key
        → e.follower.matcher.current ≡ Some found → (road_over found).answer ≡ Err number → (t : Bool) → eqb (number_of number) 10 ≡ t
        → let s : Stepped = cond t (Work.ended e (road_at e arena found).predicted.cache (Work.rematch (counted e.follower)) (Ok Status.Working))
        (States.refused e number) in
        Agrees (cond t (Shows.again 10 s.engine.follower.matcher) nothing) s.engine.follower.matcher
    refused_agrees f key found number w k c a true q =
        let ten : number ≡ Refusal.BadStart = bad_start number (eqb-true (number_of number) 10 q) in
        let t : Told = told_by refused fetching (Shows.again 10 Matching.reset) in
        agrees_by (record { held = with_matcher held Matching.reset; shown = Shows.again 10 Matching.reset })
        (road_worked_lem f key found t (Err number) w k c a (rw ten) refl refl ∙ rw q) refl refl refl
    refused_agrees f key found number w k c a false q = nothing_agrees refl

    follows_by : (f : Fix) (key : TileKey) (found : Matched) (x : Result RoadOutcome.Outcome Refusal) → Works e f → key_of e.shared.header f.lat f.lon ≡ Some key
        → e.follower.matcher.current ≡ Some found → (road_over found).answer ≡ x
        → let s = road_ended_by x e (counted e.follower) f found (road_at e arena found) in Agrees (road_shown x s.engine) s.engine.follower.matcher
    unfolding Predict.predicted_in published with_match
    follows_by f key found (Ok (Roads.Road p)) w k c a = agrees_by _ (road_worked_lem f key found _ (Ok (Roads.Road p)) w k c a refl refl refl) refl refl refl
    follows_by f key found (Ok (Roads.Need other)) w k c a = nothing_agrees (sym (road_asks_lem (counted e.follower) _ f found other).matcher)
    follows_by f key found (Ok Roads.Rematch) w k c a = agrees_by _ (road_worked_lem f key found _ (Ok Roads.Rematch) w k c a refl refl refl) refl refl refl
    follows_by f key found (Err number) w k c a = refused_agrees f key found number w k c a (eqb (number_of number) 10) refl

    -- ---- a step

    pub steps_agree : {x : Task} {s : Stepped} → Steps e arena x s → Agrees (task_shown x e arena s.engine) s.engine.follower.matcher
    unfolding arrived Gather.updated Predict.predicted_in
    steps_agree (Ways.repeats o) = nothing_agrees refl
    steps_agree (Ways.fails failed) = nothing_agrees refl
    steps_agree (Ways.opens p offset len o f r) = nothing_agrees refl
    steps_agree (Ways.spoils key i r s p) = nothing_agrees refl
    steps_agree (Ways.arrives key n r s f) = nothing_agrees refl
    steps_agree (Ways.rests f s d idle) = nothing_agrees (sym s.matcher)
    steps_agree (Ways.leaves f w o) = leaves_agrees f w o
    steps_agree (Ways.matches f key w k due) = matches_by f (match_at f).answer w refl
    steps_agree (Ways.follows f key found w k c) = follows_by f key found (road_over found).answer w k c refl
