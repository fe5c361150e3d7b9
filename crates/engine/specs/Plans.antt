-- What a step is to do where no fetch is open: this restates code (`plan.rt`, and what `work.rt` and `deliver.rt` make of an answer). `Steps` has the step itself, and
-- `PlanLaws` says that both are one.
use Rattle.refusal.specs.Refusal.{number_of}
use Rattle.refusal.specs.declared.Refusal.{Refusal}
use Rattle.std.specs.Prelude.{Result, Ok, Err, Option, Some, None, ℕ, ◌+◌, Bool, true, false, cond, not, ◌||◌, List, ◌==◌, nat_le, nat_lt}
use Rattle.pack.specs.Grid.{key_of}
use Rattle.pack.specs.declared.Header.{Header}
use Rattle.pack.specs.declared.TileKey.{TileKey}
use Rattle.cache.specs.Uses.{with_uses}
use Rattle.cache.specs.declared.Pending.{Pending}
use Rattle.cache.specs.declared.Progress.{Progress}
use Rattle.matcher.specs.declared.Made.{Made}
use Rattle.matcher.specs.declared.Matched.{Matched}
use Rattle.matcher.specs.declared.Matcher.{Matcher}
use Rattle.matcher.specs.declared.Outcome as MatchOutcome
use Rattle.matcher.specs.declared.Outcome.TheVariants as Found
use Rattle.predict.specs.declared.Outcome as RoadOutcome
use Rattle.predict.specs.declared.Outcome.TheVariants as Road
use Rattle.engine.specs.declared.Ahead.{Ahead}
use Rattle.engine.specs.declared.Due.{Due}
use Rattle.engine.specs.declared.Engine.{Engine}
use Rattle.engine.specs.declared.Fix.{Fix}
use Rattle.engine.specs.declared.Follower.{Follower}
use Rattle.engine.specs.declared.Phase.{Phase}
use Rattle.engine.specs.declared.plan.Plan.{Plan}
use Rattle.engine.specs.declared.Status.{Status}
use Rattle.engine.specs.declared.Stepped.{Stepped}
use Rattle.engine.specs.Deliver.{failing, needless}
use Rattle.engine.specs.Steps.{opened, need_step}
use Rattle.engine.specs.Work.{asking, is_other, is_time, match_done, counted, ended, off_map, matched, match_asks, may_ask, match_ended_by, match_step, published, road_asks, rematch, road_step, road_off, with_due}

abbrev pub of_road : Option Matched → Fix → Plan
of_road (Some found) fix = Plan.Road fix found
of_road None fix = Plan.Roadless

abbrev pub of_due : Fix → Due → Option Matched → Plan
of_due fix due current = cond due.matching (Plan.Match fix) (cond due.road (of_road current fix) Plan.Rest)

abbrev pub of_fix : Option TileKey → Fix → Due → Option Matched → Plan
of_fix (Some key) fix due current = of_due fix due current
of_fix None fix due current = Plan.Off fix

abbrev pub of_sight : Option Fix → Header → Due → Option Matched → Plan
of_sight None h due current = Plan.Rest
of_sight (Some fix) h due current = of_fix (key_of h fix.lat fix.lon) fix due current

abbrev pub of_need : Option TileKey → Header → Option Fix → Due → Option Matched → Plan
of_need (Some key) h fix due current = Plan.Need key
of_need None h fix due current = of_sight fix h due current

abbrev pub of_state : Phase → Header → Option Fix → Due → Option Matched → Plan
of_state Phase.Failed h fix due current = Plan.NoPack
of_state Phase.Unread h fix due current = Plan.Header
of_state Phase.Ready h fix due current = of_need due.need h fix due current

-- off the map, and a road that is due without a match
abbrev pub road_dropped : Engine → Stepped
road_dropped e = ended e e.shared.cache (with_due (counted e.follower) (road_off e.follower.due)) (Ok Status.Idle)

abbrev pub left_map : Engine → Fix → Stepped
left_map e fix = ended e e.shared.cache (off_map (counted e.follower) fix) (Ok Status.OffMap)

-- what is to be done, done
abbrev pub done_by : Plan → Engine → List ℕ → Stepped
done_by Plan.Rest e arena = ended e e.shared.cache (counted e.follower) (Ok Status.Idle)
done_by Plan.NoPack e arena = record { answer = Ok Status.NoPack; engine = e }
done_by Plan.Header e arena = opened e Pending.Header
done_by (Plan.Need key) e arena = need_step e arena key
done_by (Plan.Match fix) e arena = match_step e arena (counted e.follower) fix
done_by (Plan.Road fix found) e arena = road_step e arena (counted e.follower) fix found
done_by Plan.Roadless e arena = road_dropped e
done_by (Plan.Off fix) e arena = left_map e fix

abbrev pub plan_of : Engine → Plan
plan_of e = of_state e.shared.phase e.shared.header e.follower.sight.fix e.follower.due e.follower.matcher.current

-- ---- what a match that ended makes of the follower, and its answer

abbrev pub match_leaves : Result MatchOutcome.Outcome Refusal → Follower → Matcher → Fix → ℕ → Follower
match_leaves (Ok (Found.Found m)) f next fix pages = matched f next fix
match_leaves (Ok Found.Nothing) f next fix pages = matched f next fix
match_leaves (Ok (Found.Need key)) f next fix pages = match_asks f pages key
match_leaves (Err refusal) f next fix pages = matched f next fix

-- whatever a refusal is: a number, or one of the table
abbrev pub match_tells : {E : Type 0} → Result MatchOutcome.Outcome E → Due → ℕ → Status
match_tells (Ok (Found.Found m)) due pages = Status.Working
match_tells (Ok Found.Nothing) due pages = Status.Working
match_tells (Ok (Found.Need key)) due pages = cond (may_ask due pages) Status.Working Status.Idle
match_tells (Err refusal) due pages = Status.Working

abbrev pub match_made : Engine → Fix → Made → Stepped
match_made e fix u =
    match_ended_by u.answer e (counted e.follower) fix
    (record { answer = u.answer; matcher = u.matcher; cache = with_uses e.shared.cache u.uses })

-- what is due after it, of what was due
abbrev pub matched_due : Due → Option Matched → Option Matched → ℕ → Due
matched_due due None published at = match_done due due.road
matched_due due (Some found) published at = match_done due (cond (is_other found published || is_time due.last_road at) true due.road)

abbrev pub asking_due : Due → ℕ → TileKey → Due
asking_due due pages key = cond (may_ask due pages) (asking due key (due.reloads + 1)) (match_done due due.road)

-- ---- what a road makes of the follower, and when it refuses the step

abbrev pub road_leaves : Result RoadOutcome.Outcome Refusal → Follower → Ahead → ℕ → Fix → Matched → Follower
road_leaves (Ok (Road.Road r)) f a pages fix found = published f a fix found r
road_leaves (Ok (Road.Need key)) f a pages fix found = road_asks f pages fix found key
road_leaves (Ok Road.Rematch) f a pages fix found = rematch f
road_leaves (Err refusal) f a pages fix found = rematch f

-- the number that a road is refused with, any number, and 0 where it is not
abbrev pub road_number : Result RoadOutcome.Outcome ℕ → ℕ
road_number (Ok outcome) = 0
road_number (Err number) = number

-- whether it refuses the step: after 10 the fix is matched again
abbrev pub road_fails : Result RoadOutcome.Outcome ℕ → Bool
road_fails (Ok outcome) = false
road_fails (Err number) = not (number == 10)

-- the refusal of a step that worked out a road, if its number fails the step (`refused_just_where`, `refused_by_number`)
abbrev pub road_refusal : Result RoadOutcome.Outcome Refusal → Option Refusal
road_refusal (Ok outcome) = None
road_refusal (Err refusal) = cond (road_fails (Err (number_of refusal))) (Some refusal) None

-- ---- what a step of a load makes of the follower and of the phase, and its answer

abbrev pub load_leaves : Progress → Follower → Follower
load_leaves Progress.Done f = failing (with_due (counted f) (needless f.due)) 0
load_leaves Progress.More f = counted f
load_leaves (Progress.Failed refusal) f = failing (counted f) (cond (nat_lt f.failures 7) (f.failures + 1) 8)

abbrev pub fails_pack : Progress → ℕ → Bool
fails_pack Progress.Done failures = false
fails_pack Progress.More failures = false
fails_pack (Progress.Failed refusal) failures = nat_le 7 failures

abbrev pub load_phase : Phase → Bool → Phase
load_phase phase failed = cond failed Phase.Failed phase

abbrev pub load_tells : Bool → Status
load_tells failed = cond failed Status.NoPack Status.Working
