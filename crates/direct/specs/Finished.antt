-- What a call finishes: document 01, "A match (or finding none) or a road is finished where working it out ends other than by 5, 12 or the
-- empty Memory answer at the reload limit"; so is (docs/DECISIONS.md, "Demand 3") an empty road that a step publishes because nothing was found or because the fix
-- is off the map. "Compared are how it ended and, as that call leaves them, all its fields but `loads`, generation and heights past its length":
-- `Shown` has just those, read off what the call leaves.
use Rattle.refusal.specs.Refusal.{number_of}
use Rattle.refusal.specs.declared.Refusal.{Refusal}
use Rattle.matcher.specs.declared.Matched.{Matched}
use Rattle.std.specs.Prelude.{Option, Result, Ok, Err, ℕ, Bool, true, false, cond, List, [], eqb, Float, ℤ, length, take}
use Rattle.matcher.specs.Calls as Matching
use Rattle.matcher.specs.declared.Matcher.{Matcher}
use Rattle.matcher.specs.declared.Outcome as MatchOutcome
use Rattle.matcher.specs.declared.Outcome.TheVariants as Match
use Rattle.predict.specs.declared.End.{End}
use Rattle.predict.specs.Predict as Predict
use Rattle.predict.specs.declared.Outcome as RoadOutcome
use Rattle.predict.specs.declared.Outcome.TheVariants as Roads
use Rattle.engine.specs.Follow.{is_matched}
use Rattle.engine.specs.declared.Ahead.{Ahead}
use Rattle.engine.specs.State.{engine_ok}
use Rattle.engine.specs.Calls as Engines
use Rattle.engine.specs.declared.Engine.{Engine}
pub use Rattle.engine_states.specs.Tasks.{Task, none, off_map, match, road, road_task, grid_task, fix_task, need_task, phase_task, open_task, match_of, road_at}
unfoldable pub use Rattle.engine_states.specs.Tasks.{task_of}
use Rattle.direct.specs.Lists.{World, Call, fix, lost, reset, step, deliver, step_from, read, on_cache, nearby, current, update, predict}

-- ---- what is compared

-- of a published road; heights below its lengths
pub record Road : Type 0 where
  pub at_ms : ℕ
  pub matched : Option Matched
  pub start_z_dm : ℤ
  pub len : ℕ
  pub samples : List ℤ
  pub behind_len : ℕ
  pub behind : List ℤ
  pub behind_m : Float
  pub end : End
  pub end_m : Float
  pub confidence : ℕ

abbrev pub road_of : Ahead → Road
road_of a = record {
  at_ms = a.at_ms;
  matched = a.matched;
  start_z_dm = a.start_z_dm;
  len = a.len;
  samples = take a.len a.samples;
  behind_len = a.behind_len;
  behind = take a.behind_len a.behind;
  behind_m = a.behind_m;
  end = a.end;
  end_m = a.end_m;
  confidence = a.confidence;
}

pub data Shown : Type 0 where
  nothing : Shown
  -- a match, by a step: the matcher that it leaves, whose current match, or none, is how it ended
  matched : Matcher → Shown
  -- none was found, and the road that was published is emptied
  unmatched : Matcher → Road → Shown
  -- a road that a step publishes
  published : Road → Shown
  -- a road that ended by 6 or 10 inside a step, and the matcher that it leaves
  again : ℕ → Matcher → Shown
  -- off the map: the road that was published is emptied and the matcher cleared
  emptied : Matcher → Road → Shown
  -- by a direct call: how a match ended, and the matcher given back; how a road ended, with its heights ahead and behind
  updated : Result MatchOutcome.Outcome Refusal → Matcher → Shown
  predicted : Result RoadOutcome.Outcome Refusal → List ℤ → List ℤ → Shown
  -- of the direct engine alone: a lookup without an answer
  unanswered : Shown

-- ---- a step: what it works at (`task_of`), the match that it then makes and the road that it works out stand in specs/Tasks of crate engine_states

-- of the engine e, which the step leaves as n
abbrev pub match_shown : Result MatchOutcome.Outcome Refusal → Engine → Engine → Shown
match_shown (Ok (Match.Found m)) e n = matched n.follower.matcher
match_shown (Ok Match.Nothing) e n =
    cond (is_matched e.follower.ahead.matched) (unmatched n.follower.matcher (road_of n.follower.ahead)) (matched n.follower.matcher)
match_shown (Ok (Match.Need key)) e n = nothing
match_shown (Err refusal) e n = nothing

-- Need is 5; past the reload limit it is the empty Memory answer
abbrev pub road_shown : Result RoadOutcome.Outcome Refusal → Engine → Shown
road_shown (Ok (Roads.Road p)) n = published (road_of n.follower.ahead)
road_shown (Ok (Roads.Need key)) n = nothing
road_shown (Ok Roads.Rematch) n = again 6 n.follower.matcher
road_shown (Err refusal) n = cond (eqb (number_of refusal) 10) (again 10 n.follower.matcher) nothing

abbrev pub off_map_shown : Engine → Engine → Shown
off_map_shown e n = cond (is_matched e.follower.ahead.matched) (emptied n.follower.matcher (road_of n.follower.ahead)) nothing

abbrev pub task_shown : Task → Engine → List ℕ → Engine → Shown
task_shown none e arena n = nothing
task_shown (off_map f) e arena n = off_map_shown e n
task_shown (match f) e arena n = match_shown (match_of e arena f).answer e n
task_shown (road f found) e arena n = road_shown (road_at e arena found).predicted.answer n

-- a refused step finishes nothing
unfoldable pub step_shown : Engine → List ℕ → Shown
step_shown e arena = cond (engine_ok e (length arena)) (task_shown (task_of e) e arena (Engines.step e arena).engine) nothing

-- ---- a direct call: it ends other than by 5 or 12, so a refusal by 8, 9 or 10 is finished too

abbrev pub update_shown : Result MatchOutcome.Outcome Refusal → Matcher → Shown
update_shown (Ok (Match.Found m)) next = updated (Ok (Match.Found m)) next
update_shown (Ok Match.Nothing) next = updated (Ok Match.Nothing) next
update_shown (Ok (Match.Need key)) next = nothing
update_shown (Err refusal) next = cond (eqb (number_of refusal) 12) nothing (updated (Err refusal) next)

abbrev pub predict_shown : Result RoadOutcome.Outcome Refusal → List ℤ → List ℤ → Shown
predict_shown (Ok (Roads.Road p)) samples behind = predicted (Ok (Roads.Road p)) (take p.len samples) (take p.behind behind)
predict_shown (Ok (Roads.Need key)) samples behind = nothing
predict_shown (Ok Roads.Rematch) samples behind = predicted (Ok Roads.Rematch) [] []
predict_shown (Err refusal) samples behind = cond (eqb (number_of refusal) 12) nothing (predicted (Err refusal) [] [])

-- ---- a call

-- the delivery finishes nothing: the lent-pack form finishes what its step does
unfoldable pub shown : World → Call → Shown
shown w step = step_shown w.engine w.arena
shown w (step_from Q) = step_shown w.engine w.arena
shown w (update m h p heading) =
    let u = Matching.update m w.engine.shared.cache w.arena h p heading in update_shown u.answer u.matcher
shown w (predict h m horizon samples behind) =
    let x = Predict.predict w.engine.shared.cache w.arena h m horizon samples behind in
    predict_shown x.predicted.answer x.samples x.behind
shown w (fix f) = nothing
shown w lost = nothing
shown w (reset P) = nothing
shown w (deliver failure bs) = nothing
shown w (read r) = nothing
shown w (on_cache c) = nothing
shown w (nearby h p) = nothing
shown w (current m) = nothing

-- whether it is a match, and whether it is a road, that was finished
abbrev pub is_match : Shown → Bool
is_match nothing = false
is_match (matched m) = true
is_match (unmatched m r) = true
is_match (published r) = false
is_match (again number m) = false
is_match (emptied m r) = false
is_match (updated a m) = true
is_match (predicted a samples behind) = false
is_match unanswered = false

abbrev pub is_road : Shown → Bool
is_road nothing = false
is_road (matched m) = false
is_road (unmatched m r) = true
is_road (published r) = true
is_road (again number m) = true
is_road (emptied m r) = true
is_road (updated a m) = false
is_road (predicted a samples behind) = true
is_road unanswered = false
