-- What a step works at (`task_of`): `engine.rs`, `step`, in its order, where it needs no read; with the match that it then makes (`match_of`) and the road
-- that it works out (`road_at`). And whether a fetch is open (`is_open`), and which (`open_read`). Demand 3 (crate direct) is stated in these.
use Rattle.refusal.specs.declared.Refusal.{Refusal}
use Rattle.std.specs.Prelude.{Result, Option, Some, None, Bool, true, false, cond, List, ℕ, pos, replicate}
use Rattle.pack.specs.declared.TileKey.{TileKey}
use Rattle.pack.specs.Grid.{key_of}
use Rattle.cache.specs.declared.Pending.{Pending}
use Rattle.matcher.specs.declared.Matched.{Matched}
use Rattle.matcher.specs.Gather as Gather
use Rattle.matcher.specs.declared.Updated.{Updated}
use Rattle.predict.specs.Predict as Predict
use Rattle.engine.specs.Fixes.{place_of}
use Rattle.engine.specs.Steps.{request_of}
use Rattle.engine.specs.declared.Engine.{Engine}
use Rattle.engine.specs.declared.Fix.{Fix}
use Rattle.engine.specs.declared.Follower.{Follower}
use Rattle.engine.specs.declared.Phase.{Phase}
use Rattle.engine.specs.declared.Status.{Status}

-- ---- the open fetch

abbrev pub is_open : Pending → Bool
is_open Pending.Nothing = false
is_open Pending.Header = true
is_open (Pending.Entry key) = true
is_open Pending.Chunk = true

-- the read that an open fetch asks for, as a step repeats it
abbrev pub open_read : Engine → Result Status Refusal
open_read e = request_of e.shared e.shared.cache.pending

-- ---- the task of a step

pub data Task : Type 0 where
  none : Task
  off_map : Fix → Task
  match : Fix → Task
  road : Fix → Matched → Task

abbrev pub road_task : Option Matched → Fix → Task
road_task None f = none
road_task (Some found) f = road f found

abbrev pub due_task : Follower → Fix → Task
due_task w f = cond w.due.matching (match f) (cond w.due.road (road_task w.matcher.current f) none)

abbrev pub grid_task : Option TileKey → Follower → Fix → Task
grid_task (Some key) w f = due_task w f
grid_task None w f = off_map f

abbrev pub fix_task : Option Fix → Engine → Task
fix_task None e = none
fix_task (Some f) e = grid_task (key_of e.shared.header f.lat f.lon) e.follower f

abbrev pub need_task : Option TileKey → Engine → Task
need_task None e = fix_task e.follower.sight.fix e
need_task (Some key) e = none

abbrev pub phase_task : Phase → Engine → Task
phase_task Phase.Unread e = none
phase_task Phase.Failed e = none
phase_task Phase.Ready e = need_task e.follower.due.need e

abbrev pub open_task : Pending → Engine → Task
open_task Pending.Nothing e = phase_task e.shared.phase e
open_task Pending.Header e = none
open_task (Pending.Entry key) e = none
open_task Pending.Chunk e = none

unfoldable pub task_of : Engine → Task
task_of e = open_task e.shared.cache.pending e

-- the match that a step makes, and the road that it works out
abbrev pub match_of : Engine → List ℕ → Fix → Updated
match_of e arena f = Gather.updated e.follower.matcher e.shared.cache arena e.shared.header (place_of f) e.follower.sight.heading

abbrev pub road_at : Engine → List ℕ → Matched → Predict.After
road_at e arena found =
    Predict.predicted_in e.shared.cache arena e.shared.header found e.follower.horizon_m (replicate 501 (pos 0)) (replicate 11 (pos 0))
