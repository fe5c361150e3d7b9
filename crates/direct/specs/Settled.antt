-- The customer's corollary in its own words: "only through which fixes were matched before it and what a reset clears" (demand 3). It holds of hosts that
-- call `step` until it answers neither Working nor Fetch before they give the next fix: where a fix is taken, nothing is due. Then where a match was
-- cleared is decided by what the story says beside it, and can be left out. What carries it is a law of every list, `AllCleared`: unless a road is due, a step off the map
-- clears the matcher where it has a match.
use Rattle.refusal.specs.declared.Refusal.{Refusal}
use Rattle.std.specs.Prelude.{Result, Ok, Err, ℕ, ◌≤◌, ◌≡◌, Bool, true, false, ◌||◌, not, cond, List, [], ◌∷◌, ◌++◌, Float}
use Rattle.matcher.specs.Calls as Matching
use Rattle.engine.specs.Follow.{is_matched}
use Rattle.engine.specs.State.{is_failed}
use Rattle.engine.specs.Work.{off_map}
use Rattle.engine.specs.Calls as Engines
use Rattle.engine.specs.declared.Engine.{Engine}
use Rattle.engine.specs.declared.Fix.{Fix}
use Rattle.engine.specs.declared.Status.{Status}
use Rattle.direct.specs.Lists as Calls
use Rattle.direct.specs.Lists.{World, Call, start, Along}
use Rattle.direct.specs.Finished.{shown}
use Rattle.direct.specs.Claims.{AllFair}
use Rattle.direct.specs.Story as Story
use Rattle.direct.specs.Story.{Event, story, after, SameFinish}

-- ---- one list

-- with no premise, after any list: where no road is due, a step that finds its fix off the map leaves the matcher as it was or clears it, by whether it
-- has a match, and whatever stands published
abbrev pub AllCleared : Type 0
AllCleared =
    (n : ℕ) (horizon : Float) (arena : List ℕ) (cs : List Call) (fix : Fix) →
    let f = (after cs (start n horizon arena)).engine.follower in
    f.due.road ≡ false → (off_map f fix).matcher ≡ cond (is_matched f.matcher.current) Matching.reset f.matcher

-- ---- two lists

-- neither a match nor a road is due; or the pack has failed, and nothing is worked at before the next reset
abbrev pub is_settled : Engine → Bool
is_settled e = is_failed e.shared.phase || not (e.follower.due.matching || e.follower.due.road)

-- a fix is given only then
abbrev pub Settles : World → Call → Type 0
Settles w c = (f : Fix) → c ≡ Calls.fix f → is_settled w.engine ≡ true

abbrev pub is_cleared : Event → Bool
is_cleared Story.cleared = true
is_cleared (Story.fixed f) = false
is_cleared Story.lost = false
is_cleared (Story.reset P) = false
is_cleared Story.matched = false

-- the fixes and losses taken, the resets, and which fixes were matched
unfoldable pub without_cleared : List Event → List Event
without_cleared [] = []
without_cleared (x ∷ xs) = cond (is_cleared x) (without_cleared xs) (x ∷ without_cleared xs)

-- there is nothing to do before the next fix
abbrev pub is_resting : Result Status Refusal → Bool
is_resting (Ok Status.Idle) = true
is_resting (Ok Status.OffMap) = true
is_resting (Ok Status.NoPack) = true
is_resting (Ok Status.Working) = false
is_resting (Ok (Status.Fetch offset len)) = false
is_resting (Err e) = false

-- so a host that calls `step` until it rests before it gives a fix keeps to this: after a fair list that kept to it, a step that rests leaves the engine
-- settled
abbrev pub AllRested : Type 0
AllRested =
    (n : ℕ) → n ≤ 96 → (horizon : Float) (arena P : List ℕ) (cs : List Call) → AllFair P cs (start n horizon arena) →
    Along Settles cs (start n horizon arena) →
    let w = after cs (start n horizon arena) in
    is_resting (Engines.step w.engine w.arena).answer ≡ true → is_settled (Engines.step w.engine w.arena).engine ≡ true

-- as `AllStories`, of lists that settle before each fix
abbrev pub AllSettled : Type 0
AllSettled =
    (n : ℕ) → n ≤ 96 → (horizon : Float) (P one two : List ℕ) (cs ds : List Call) (c : Call) → AllFair P (cs ++ (c ∷ [])) (start n horizon one) →
    AllFair P (ds ++ (c ∷ [])) (start n horizon two) → Along Settles cs (start n horizon one) → Along Settles ds (start n horizon two) →
    without_cleared (story cs (start n horizon one)) ≡ without_cleared (story ds (start n horizon two)) →
    SameFinish (shown (after cs (start n horizon one)) c) (shown (after ds (start n horizon two)) c)
