-- The last match that the direct engine holds (document 01: "It holds fix, history, heading, matcher and last match"). Nothing that it works out reads it: it
-- is told what was finished, an emptied road too (docs/DECISIONS.md, Demand 3). `AllLast` says what it is. As long as no empty Memory answer was
-- published, which is not finished and of which it is not told, its last match is the published one; and whether a road is emptied, off the map or
-- where no match is found, is whether there is a last match.
use Rattle.refusal.specs.declared.Refusal.{Refusal}
use Rattle.matcher.specs.declared.Matched.{Matched}
use Rattle.std.specs.Prelude.{Option, Result, Ok, Err, ℕ, ◌≤◌, ◌≡◌, Bool, true, false, ◌&&◌, not, List, [], ◌∷◌, Float, length}
use Rattle.matcher.specs.declared.Outcome.TheVariants as Match
use Rattle.predict.specs.declared.Outcome as RoadOutcome
use Rattle.predict.specs.declared.Outcome.TheVariants as Roads
use Rattle.engine.specs.Follow.{is_matched}
use Rattle.engine.specs.State.{engine_ok}
use Rattle.engine.specs.Work.{may_ask}
use Rattle.engine.specs.declared.Engine.{Engine}
use Rattle.engine.specs.declared.Fix.{Fix}
use Rattle.direct.specs.Lists as Calls
use Rattle.direct.specs.Lists.{World, Call, start, Along}
use Rattle.direct.specs.Finished as Tasks
use Rattle.direct.specs.Finished.{Task, is_road, match_of, road_at, task_of, step_shown}
use Rattle.direct.specs.Direct.{Made, Told, Lookup, directly, Direct, new_direct, applied, pack_after, direct_exec}
use Rattle.direct.specs.Claims.{tolds, AllFair, made_of}
use Rattle.direct.specs.Story.{after}

-- what the direct engine holds after a list
unfoldable pub direct_after : Lookup → Made → List ℕ → List Call → List Told → Direct → Direct
direct_after at made P [] ts d = d
direct_after at made P (c ∷ cs) [] d = d
direct_after at made P (c ∷ cs) (t ∷ ts) d = direct_after at made (pack_after P c t) cs ts (direct_exec at made P c t d).direct

-- its last match, once what waits is done
abbrev pub last_of : Direct → Option Matched
last_of d = (applied d.waiting d.held).last

-- a road that asks for a tile, and may ask no more
abbrev pub is_need : Result RoadOutcome.Outcome Refusal → Bool
is_need (Ok (Roads.Need key)) = true
is_need (Ok (Roads.Road p)) = false
is_need (Ok Roads.Rematch) = false
is_need (Err e) = false

abbrev pub task_remembers : Task → Engine → List ℕ → Bool
task_remembers (Tasks.road f found) e arena =
    let r = road_at e arena found in is_need r.predicted.answer && not (may_ask e.follower.due r.predicted.cache.pages.count)
task_remembers (Tasks.off_map f) e arena = false
task_remembers (Tasks.match f) e arena = false
task_remembers Tasks.none e arena = false

-- a step publishes no empty Memory answer, nor does one over a lent pack
pub record NoMemory (w : World) (c : Call) : Type 0 where
  pub step : c ≡ Calls.step → task_remembers (task_of w.engine) w.engine w.arena ≡ false
  pub lent : (Q : List ℕ) → c ≡ Calls.step_from Q → task_remembers (task_of w.engine) w.engine w.arena ≡ false

-- the last match beside the engine, before its next step
pub record Tells (last : Option Matched) (w : World) : Type 0 where
  pub published : last ≡ w.engine.follower.ahead.matched
  pub off_map : (f : Fix) → engine_ok w.engine (length w.arena) ≡ true → task_of w.engine ≡ Tasks.off_map f
      → is_road (step_shown w.engine w.arena) ≡ is_matched last
  pub none_found : (f : Fix) → engine_ok w.engine (length w.arena) ≡ true → task_of w.engine ≡ Tasks.match f
      → (match_of w.engine w.arena f).answer ≡ Ok Match.Nothing → is_road (step_shown w.engine w.arena) ≡ is_matched last

abbrev pub AllLast : Type 0
AllLast =
    (n : ℕ) → n ≤ 96 → (horizon : Float) (arena P : List ℕ) (cs : List Call) → AllFair P cs (start n horizon arena) →
    Along NoMemory cs (start n horizon arena) →
    Tells (last_of (direct_after (directly n) (made_of n horizon) P cs (tolds cs (start n horizon arena)) new_direct)) (after cs (start n horizon arena))
