-- The work of a step that needs no read: `engine.rs`, `step` from `self.fix` on, `reload` and `publish`. Off the map, a match, a road, or nothing.
-- Inside a step 5 asks for the tile, and 6 and 10 have the fix matched again; the late 12 leaves the engine as it was (document 01,
-- "Refused").
use Rattle.refusal.specs.Refusal.{number_of}
use Rattle.refusal.specs.declared.Refusal.{Refusal}
use Rattle.std.specs.Prelude.{Result, Ok, Err, Option, Some, None, ℕ, ◌+◌, ◌-◌, Bool, true, false, cond, not, ◌||◌, List, replicate, ℤ, pos, ◌==◌, nat_le, nat_lt}
use Rattle.pack.specs.Grid.{key_of}
use Rattle.pack.specs.declared.TileKey.{TileKey}
use Rattle.geo.specs.Flat.{whole}
use Rattle.cache.specs.Lookups.{after}
use Rattle.cache.specs.declared.Cache.{Cache}
use Rattle.matcher.specs.Score.{is_on}
use Rattle.matcher.specs.declared.Matched.{Matched}
use Rattle.matcher.specs.Calls as Matching
use Rattle.matcher.specs.Gather.{updated}
use Rattle.matcher.specs.declared.Matcher.{Matcher}
use Rattle.matcher.specs.declared.Outcome as MatchOutcome
use Rattle.matcher.specs.declared.Outcome.TheVariants as Found
use Rattle.matcher.specs.declared.Updated.{Updated}
use Rattle.predict.specs.declared.End.{End}
use Rattle.predict.specs.Predict.{After, predicted_in}
use Rattle.predict.specs.declared.Outcome as RoadOutcome
use Rattle.predict.specs.declared.Outcome.TheVariants as Road
use Rattle.predict.specs.declared.Prediction.{Prediction}
use Rattle.engine.specs.Fixes.{place_of}
use Rattle.engine.specs.Publish.{with_match, without_match}
use Rattle.engine.specs.Follow as Followers
use Rattle.engine.specs.declared.Ahead.{Ahead}
use Rattle.engine.specs.declared.Due.{Due}
use Rattle.engine.specs.declared.Fix.{Fix}
use Rattle.engine.specs.declared.Follower.{Follower}
use Rattle.engine.specs.declared.Engine.{Engine}
use Rattle.engine.specs.declared.Status.{Status}
use Rattle.engine.specs.declared.Stepped.{Stepped}
pub use Rattle.engine.specs.Setters.{with_matcher, with_due, with_ahead, with_steps, with_matching, with_road, with_last_road, with_need, with_reloads}
use Rattle.engine.specs.State.{refused, reload_limit}

-- one step more is counted, in 32 bits
abbrev pub counted : Follower → Follower
counted f = with_steps f (after f.steps)

abbrev pub ended : Engine → Cache → Follower → Result Status Refusal → Stepped
ended e c f answer = record {
  answer = answer;
  engine = record { shared = record { phase = e.shared.phase; header = e.shared.header; cache = c }; follower = f };
}

abbrev pub is_matched : Option Matched → Bool
is_matched c = Followers.is_matched c

-- a road that is published goes
abbrev pub emptied : Ahead → ℕ → End → Ahead
emptied a at end = cond (is_matched a.matched) (without_match a at end) a

-- ---- off the map: a published match is cleared with its road

abbrev pub matching_off : Due → Due
matching_off d = with_matching d false

unfoldable pub off_map : Follower → Fix → Follower
off_map f fix =
    with_due (with_ahead (with_matcher f (cond (is_matched f.ahead.matched) Matching.reset f.matcher)) (emptied f.ahead fix.at_ms End.MapEdge))
    (matching_off f.due)

-- ---- a tile is needed first

abbrev pub asking : Due → TileKey → ℕ → Due
asking d key reloads = with_reloads (with_need d (Some key)) reloads

abbrev pub may_ask : Due → ℕ → Bool
may_ask d pages = nat_lt d.reloads (reload_limit pages)

-- ---- a match

abbrev pub is_other : Matched → Option Matched → Bool
is_other found None = true
is_other found (Some m) = not (is_on m found.tile found.edge)

-- PREDICT_EVERY_MS is 2,000
abbrev pub is_time : Option ℕ → ℕ → Bool
is_time None now = true
is_time (Some at) now = nat_le 2000 (now - at)

abbrev pub match_done : Due → Bool → Due
match_done d road = with_reloads (with_road (with_matching d false) road) 0

abbrev pub matched_by : Option Matched → Follower → Matcher → Fix → Follower
matched_by None f m fix =
    with_due (with_ahead (with_matcher f m) (emptied f.ahead fix.at_ms End.Uncertain)) (match_done f.due f.due.road)
matched_by (Some found) f m fix =
    with_due (with_matcher f m)
    (match_done f.due (cond (is_other found f.ahead.matched || is_time f.due.last_road fix.at_ms) true f.due.road))

unfoldable pub matched : Follower → Matcher → Fix → Follower
matched f m fix = matched_by m.current f m fix

-- past the limit the match is given up
abbrev pub match_asks : Follower → ℕ → TileKey → Follower
match_asks f pages key =
    cond (may_ask f.due pages) (with_due f (asking f.due key (f.due.reloads + 1))) (with_due f (match_done f.due f.due.road))

abbrev pub match_ended_by : Result MatchOutcome.Outcome Refusal → Engine → Follower → Fix → Updated → Stepped
match_ended_by (Ok (Found.Found m)) e f fix u = ended e u.cache (matched f u.matcher fix) (Ok Status.Working)
match_ended_by (Ok Found.Nothing) e f fix u = ended e u.cache (matched f u.matcher fix) (Ok Status.Working)
match_ended_by (Ok (Found.Need key)) e f fix u =
    let pages = u.cache.pages.count in
    ended e u.cache (match_asks f pages key) (cond (may_ask f.due pages) (Ok Status.Working) (Ok Status.Idle))
match_ended_by (Err refusal) e f fix u = refused e refusal

abbrev pub match_ended : Engine → Follower → Fix → Updated → Stepped
match_ended e f fix u = match_ended_by u.answer e f fix u

unfoldable pub match_step : Engine → List ℕ → Follower → Fix → Stepped
match_step e arena f fix =
    match_ended e f fix (updated f.matcher e.shared.cache arena e.shared.header (place_of fix) f.sight.heading)

-- ---- a road

abbrev pub no_road : Prediction
no_road = record { len = 0; behind = 0; behind_m = whole 0; end = End.Memory; end_m = whole 0; confidence = 0 }

abbrev pub road_done : Due → ℕ → Due
road_done d at = with_reloads (with_last_road (with_road d false) (Some at)) 0

unfoldable pub published : Follower → Ahead → Fix → Matched → Prediction → Follower
published f a fix found p = with_ahead (with_due f (road_done f.due fix.at_ms)) (with_match a fix.at_ms found p)

-- past the limit the road is the empty Memory answer
abbrev pub road_asks : Follower → ℕ → Fix → Matched → TileKey → Follower
road_asks f pages fix found key =
    cond (may_ask f.due pages) (with_due f (asking f.due key (f.due.reloads + 1))) (published f f.ahead fix found no_road)

-- 6 and 10: the matcher cleared, a match due, and the road still due
abbrev pub matching_on : Due → Due
matching_on d = with_matching d true

abbrev pub rematch : Follower → Follower
rematch f = with_due (with_matcher f Matching.reset) (matching_on f.due)

abbrev pub with_heights : Ahead → List ℤ → List ℤ → Ahead
with_heights a samples behind = record {
  generation = a.generation;
  at_ms = a.at_ms;
  matched = a.matched;
  start_z_dm = a.start_z_dm;
  samples = samples;
  len = a.len;
  behind = behind;
  behind_len = a.behind_len;
  behind_m = a.behind_m;
  end = a.end;
  end_m = a.end_m;
  confidence = a.confidence;
}

abbrev pub road_ended_by : Result RoadOutcome.Outcome Refusal → Engine → Follower → Fix → Matched → After → Stepped
road_ended_by (Ok (Road.Road r)) e f fix found x =
    ended e x.predicted.cache (published f (with_heights f.ahead x.samples x.behind) fix found r) (Ok Status.Working)
road_ended_by (Ok (Road.Need key)) e f fix found x =
    ended e x.predicted.cache (road_asks f x.predicted.cache.pages.count fix found key) (Ok Status.Working)
road_ended_by (Ok Road.Rematch) e f fix found x = ended e x.predicted.cache (rematch f) (Ok Status.Working)
road_ended_by (Err refusal) e f fix found x =
    cond (number_of refusal == 10) (ended e x.predicted.cache (rematch f) (Ok Status.Working)) (refused e refusal)

-- over fresh heights of 0
unfoldable pub road_step : Engine → List ℕ → Follower → Fix → Matched → Stepped
road_step e arena f fix found =
    let x = predicted_in e.shared.cache arena e.shared.header found f.horizon_m (replicate 501 (pos 0)) (replicate 11 (pos 0)) in
    road_ended_by x.predicted.answer e f fix found x

abbrev pub road_off : Due → Due
road_off d = with_road d false

abbrev pub road_due_by : Option Matched → Engine → List ℕ → Follower → Fix → Stepped
road_due_by (Some found) e arena f fix = road_step e arena f fix found
road_due_by None e arena f fix = ended e e.shared.cache (with_due f (road_off f.due)) (Ok Status.Idle)

abbrev pub road_due : Engine → List ℕ → Follower → Fix → Stepped
road_due e arena f fix = road_due_by f.matcher.current e arena f fix

-- ---- what is to be done at a fix

abbrev pub in_grid_step : Engine → List ℕ → Follower → Fix → Stepped
in_grid_step e arena f fix =
    cond f.due.matching (match_step e arena f fix) (cond f.due.road (road_due e arena f fix) (ended e e.shared.cache f (Ok Status.Idle)))

abbrev pub at_fix_by : Option TileKey → Engine → List ℕ → Follower → Fix → Stepped
at_fix_by (Some key) e arena f fix = in_grid_step e arena f fix
at_fix_by None e arena f fix = ended e e.shared.cache (off_map f fix) (Ok Status.OffMap)

unfoldable pub at_fix : Engine → List ℕ → Follower → Fix → Stepped
at_fix e arena f fix = at_fix_by (key_of e.shared.header fix.lat fix.lon) e arena f fix

abbrev pub worked_by : Option Fix → Engine → List ℕ → Follower → Stepped
worked_by None e arena f = ended e e.shared.cache f (Ok Status.Idle)
worked_by (Some fix) e arena f = at_fix e arena f fix

-- a step that needs no tile, counted
unfoldable pub worked : Engine → List ℕ → Stepped
worked e arena = worked_by e.follower.sight.fix e arena (counted e.follower)
