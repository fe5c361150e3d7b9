-- Following the road ahead from edge to edge: `predict.rs`, `predict`, the edge loop, at most MAX_EDGES (2,000) of them. Each step is written
-- once, over any reader: `walk_to` knows no cache, and the direct engine shares it. `follow` is it at the code's lookups. A tile that is not
-- loaded ends the walk with its key, one that no longer passes with 12; a missing tile of an edge that is taken ends it with its key too, as in
-- the Rust.
use Rattle.refusal.specs.declared.Refusal.{Refusal}
use Rattle.std.specs.Prelude.{Result, Ok, Err, ℕ, ◌%◌, Bool, true, false, cond, List, ℤ, Float, length}
use Rattle.num.specs.Fold.{up_to}
use Rattle.pack.specs.declared.Header.{Header}
use Rattle.pack.specs.declared.TileKey.{TileKey}
use Rattle.cache.specs.Runs.{span}
use Rattle.tile.specs.Layout as Layout
use Rattle.tile.specs.declared.Edge.{Edge}
use Rattle.cache.specs.Direct.{Look, ready, missing, absent, stale}
use Rattle.cache.specs.declared.Lookup.{Lookup}
use Rattle.cache.specs.Ages.{look_up}
use Rattle.cache.specs.Reader.{Reader, in_bytes, in_looks}
use Rattle.matcher.specs.declared.Heading.{Heading}
use Rattle.predict.specs.declared.Way.{Way}
use Rattle.predict.specs.declared.cost.Bound.{Bound}
use Rattle.predict.specs.declared.cost.Road.{Road}
use Rattle.predict.specs.declared.outgoing.Leg.{Leg}
use Rattle.predict.specs.Choose.{no_choices}
use Rattle.predict.specs.Cost.{has_flag}
use Rattle.predict.specs.Twins.{boundary_twins}
use Rattle.predict.specs.declared.Track.{Track}
use Rattle.predict.specs.declared.Trip.{Trip}
use Rattle.predict.specs.Incoming.{incoming}
use Rattle.predict.specs.Vertex.{Along, to_end, course_of}
use Rattle.predict.specs.declared.Arrival.{Arrival}
use Rattle.predict.specs.declared.Crossing.{Crossing}
use Rattle.predict.specs.declared.Decision.{Decision}
use Rattle.predict.specs.declared.End.TheVariants as End
use Rattle.predict.specs.declared.Ending.{Ending}
use Rattle.predict.specs.Visits.{nothing_visited, visit}
use Rattle.predict.specs.Meets.{nothing_met, meet}
use Rattle.predict.specs.Consider.{consider}
use Rattle.predict.specs.Cross.{Ways, cross_over, ways_of}
use Rattle.predict.specs.Decide.{decide}
use Rattle.predict.specs.declared.Walk.{Walk}
use Rattle.predict.specs.declared.Followed.{Followed}
use Rattle.predict.specs.declared.Walked.{Walked}
use Rattle.predict.specs.declared.enter.Entered.{Entered}

-- ---- a walk with one thing changed

unfoldable pub with_ending : Walk → Ending → Walk
with_ending w ending = record {
  way = w.way;
  from = w.from;
  entry = w.entry;
  approach = w.approach;
  road = w.road;
  confidence = w.confidence;
  ending = ending;
}

-- at the horizon, or with the last sample
unfoldable pub reached : Walk → Walk
reached w = with_ending w (Ending.Stops End.Horizon)

-- the way decided on, from its first point past the node
unfoldable pub taken : Walk → Decision → Walk
taken w d = record {
  way = d.way;
  from = 1;
  entry = w.entry;
  approach = w.approach;
  road = w.road;
  confidence = d.confidence;
  ending = d.ending;
}

unfoldable pub on_road : Walk → Road → Walk
on_road w road = record {
  way = w.way;
  from = w.from;
  entry = w.entry;
  approach = w.approach;
  road = road;
  confidence = w.confidence;
  ending = w.ending;
}

unfoldable pub with_entry : Walk → Heading → Float → Walk
with_entry w entry approach = record {
  way = w.way;
  from = w.from;
  entry = entry;
  approach = approach;
  road = w.road;
  confidence = w.confidence;
  ending = w.ending;
}

-- ---- onto an edge

-- a walk, and the edges and tiles behind it
pub record Onto : Type 0 where
  pub walk : Walk
  pub visited : List ℕ
  pub met : List ℕ

abbrev pub stopped : List ℕ → List ℕ → Walk → Ending → Onto
stopped v m w ending = record { walk = with_ending w ending; visited = v; met = m }

-- its tile takes so many pages: with room the edge counts as followed, without it is Memory
abbrev pub entered : List ℕ → List ℕ → Walk → ℕ → ℕ → Onto
entered v m w budget pages =
    let x = meet m budget w.way.tile pages in
    cond x.fits (record { walk = w; visited = visit v w.way.tile w.way.edge; met = x.met }) (stopped v x.met w (Ending.Stops End.Memory))

abbrev pub enter_look : Look → List ℕ → List ℕ → Walk → ℕ → Onto
enter_look (ready bs) v m w budget = entered v m w budget (span (length bs))
enter_look missing v m w budget = stopped v m w (Ending.Need w.way.tile)
enter_look absent v m w budget = stopped v m w (Ending.Need w.way.tile)
enter_look stale v m w budget = stopped v m w Ending.Stale

-- ---- at a junction

-- ROUNDABOUT is 8
abbrev pub is_round : Edge → Bool
is_round e = has_flag e.flags 8

abbrev pub entry_or : Heading → Float → Heading
entry_or (Heading.Degrees d) approach = Heading.Degrees d
entry_or Heading.Nothing approach = Heading.Degrees approach

-- on a roundabout the heading of the approach is kept, taken where the approach road met the ring
unfoldable pub turned : Walk → Edge → Float → Walk
turned w e incoming = cond (is_round e) (with_entry w (entry_or w.entry w.approach) w.approach) (with_entry w Heading.Nothing incoming)

abbrev pub bound_of : Heading → Float → Bound
bound_of Heading.Nothing incoming = record { heading = incoming; round = false }
bound_of (Heading.Degrees d) incoming = record { heading = d; round = true }

abbrev pub incoming_of : Track → Float → ℕ → Float
incoming_of t approach lon_um = incoming t.history t.here t.distance lon_um approach

abbrev pub node_of : Leg → ℕ
node_of leg = cond leg.forward leg.edge.to leg.edge.from

abbrev pub arrival_of : Header → Walk → Float → Arrival
arrival_of h w incoming = record { header = h; way = w.way; bound = bound_of w.entry incoming; road = w.road }

abbrev pub road_of : Road → Edge → Road
road_of road next = cond (is_round next) road (record { class = next.class; group = next.group; flags = next.flags })

-- the tile of the next edge
abbrev pub next_look : Look → Walk → Walk
next_look (ready bs) w = on_road w (road_of w.road (Layout.edge_of bs w.way.edge))
next_look missing w = with_ending w (Ending.Need w.way.tile)
next_look absent w = with_ending w (Ending.Need w.way.tile)
next_look stale w = with_ending w Ending.Stale

-- what is carried on once a key was looked up
abbrev pub carried_by : {S : Type 0} → Look → Reader S → S → TileKey → S
carried_by (ready bs) rd s key = rd.found s key
carried_by missing rd s key = s
carried_by absent rd s key = s
carried_by stale rd s key = s

-- a walk, and what its lookups carry
pub record Stride (S : Type 0) : Type 0 where
  pub walk : Walk
  pub carried : S

-- with how far it has come, the edges and tiles behind it, and the heights
pub record Run (S : Type 0) : Type 0 where
  pub walk : Walk
  pub track : Track
  pub visited : List ℕ
  pub met : List ℕ
  pub carried : S
  pub heights : List ℤ

module _ {S : Type 0} (rd : Reader S) where
  abbrev pub next_over : Walk → S → Stride S
  next_over w s =
      let found = rd.at s w.way.tile in record { walk = next_look found w; carried = carried_by found rd s w.way.tile }

  -- on by the way decided on, if there is one
  abbrev pub taken_by : Ending → Walk → S → Stride S
  taken_by Ending.Going w s = next_over w s
  taken_by (Ending.Stops end) w s = record { walk = w; carried = s }
  taken_by (Ending.Need key) w s = record { walk = w; carried = s }
  taken_by Ending.Stale w s = record { walk = w; carried = s }

  abbrev pub decided_over : Walk → S → Decision → Stride S
  decided_over w s d = taken_by d.ending (taken w d) s

  -- where the lookups of the junction ended the walk, it ends so
  abbrev pub onward_by : Ending → Walk → Ways S → Stride S
  onward_by Ending.Going w x = decided_over w x.carried (decide x.choices x.blocked w.confidence)
  onward_by (Ending.Stops end) w x = record { walk = with_ending w (Ending.Stops end); carried = x.carried }
  onward_by (Ending.Need key) w x = record { walk = with_ending w (Ending.Need key); carried = x.carried }
  onward_by Ending.Stale w x = record { walk = with_ending w Ending.Stale; carried = x.carried }

  abbrev pub onward_over : Walk → Ways S → Stride S
  onward_over w x = onward_by x.ending w x

  -- the ways on of the edge's own tile, then of the tiles that share the node
  abbrev pub ways_over : Header → List ℕ → Walk → S → List ℕ → Leg → Float → Ways S
  ways_over h v w s bs leg incoming =
      let a = arrival_of h w incoming in
      let node = node_of leg in
      let at = Layout.node_of bs node in
      cross_over rd a v s (consider no_choices a v bs w.way.tile node) (boundary_twins at.x at.y (h.tile % 0x1_0000))

  unfoldable pub crossed_over : Header → List ℕ → Walk → Track → S → List ℕ → Leg → Stride S
  crossed_over h v w t s bs leg =
      let incoming = incoming_of t w.approach (Layout.head_of bs).lon_um in
      let d = turned w leg.edge incoming in
      onward_over d (ways_over h v d s bs leg incoming)

-- ---- an edge

abbrev pub goes_on : Ending → Bool
goes_on Ending.Going = true
goes_on (Ending.Stops end) = false
goes_on (Ending.Need key) = false
goes_on Ending.Stale = false

abbrev pub leg_of : Header → Way → List ℕ → Leg
leg_of h way bs = record { header = h; key = way.tile; edge = Layout.edge_of bs way.edge; forward = way.forward }

-- the points of the walk's edge that lie ahead
unfoldable pub along : Trip → Walk → Track → List ℕ → List ℤ → Along
along trip w t bs hs =
    to_end trip (leg_of trip.header w.way bs) bs (Layout.head_of bs).lon_um w.from (record { track = t; heights = hs })

abbrev pub run_of : {S : Type 0} → Onto → Track → S → List ℤ → Run S
run_of o t s hs = record { walk = o.walk; track = t; visited = o.visited; met = o.met; carried = s; heights = hs }

abbrev pub reached_run : {S : Type 0} → Onto → Track → S → List ℤ → Run S
reached_run o t s hs = record { walk = reached o.walk; track = t; visited = o.visited; met = o.met; carried = s; heights = hs }

-- before the first edge no edge was followed and no tile met
abbrev pub begun : {S : Type 0} → Walk → Track → S → List ℤ → Run S
begun w t s hs = record { walk = w; track = t; visited = nothing_visited; met = nothing_met; carried = s; heights = hs }

module _ {S : Type 0} (rd : Reader S) (trip : Trip) (budget : ℕ) where
  abbrev pub crossed_run : Onto → Track → S → List ℕ → List ℤ → Run S
  crossed_run o t s bs hs =
      let x = crossed_over rd trip.header o.visited o.walk t s bs (leg_of trip.header o.walk.way bs) in
      record { walk = x.walk; track = t; visited = o.visited; met = o.met; carried = x.carried; heights = hs }

  -- over at the horizon, else on from the junction
  abbrev pub driven_to : Onto → S → List ℕ → Along → Run S
  driven_to o s bs a = cond a.track.over (reached_run o a.track s a.heights) (crossed_run o a.track s bs a.heights)

  abbrev pub driven : Onto → Track → S → List ℕ → List ℤ → Run S
  driven o t s bs hs = driven_to o s bs (along trip o.walk t bs hs)

  -- once the edge's tile was looked up: along the edge, if there is room for it
  abbrev pub edge_look : Look → Run S → Run S
  edge_look (ready bs) r =
      let o = enter_look (ready bs) r.visited r.met r.walk budget in
      let s = rd.found r.carried r.walk.way.tile in
      cond (goes_on o.walk.ending) (driven o r.track s bs r.heights) (run_of o r.track s r.heights)
  edge_look missing r = run_of (enter_look missing r.visited r.met r.walk budget) r.track r.carried r.heights
  edge_look absent r = run_of (enter_look absent r.visited r.met r.walk budget) r.track r.carried r.heights
  edge_look stale r = run_of (enter_look stale r.visited r.met r.walk budget) r.track r.carried r.heights

  -- nothing more once the walk ended
  abbrev pub edge_step : Run S → Run S
  edge_step r = cond (goes_on r.walk.ending) (edge_look (rd.at r.carried r.walk.way.tile) r) r

  -- the first n edges
  unfoldable pub walk_to : Run S → ℕ → Run S
  walk_to r n = up_to (λ (x : Run S) (i : ℕ). edge_step x) r n

  abbrev pub walk_over : Walk → Track → S → List ℤ → Run S
  walk_over w t s hs = walk_to (begun w t s hs) 2000

-- ---- the code's

-- where an answer in pages stands
abbrev pub first_of : Result Lookup Refusal → ℕ
first_of (Ok (Lookup.Ready first len)) = first
first_of (Ok Lookup.Missing) = 0
first_of (Ok Lookup.Absent) = 0
first_of (Err e) = 0

abbrev pub len_of : Result Lookup Refusal → ℕ
len_of (Ok (Lookup.Ready first len)) = len
len_of (Ok Lookup.Missing) = 0
len_of (Ok Lookup.Absent) = 0
len_of (Err e) = 0

-- the walk on its edge, where the tile stands, and the numbers that are lent
pub record Entering : Type 0 where
  pub entered : Entered
  pub looks : List ℕ
  pub visited : List ℕ
  pub met : List ℕ

-- by the answer of a lookup
abbrev pub entered_at : Onto → Result Lookup Refusal → Entered
entered_at o answer = record { walk = o.walk; first = first_of answer; len = len_of answer }

abbrev pub entered_by : List ℕ → List ℕ → Walk → Result Lookup Refusal → List ℕ → ℕ → Onto
entered_by v m w answer arena budget = enter_look (in_bytes answer arena) v m w budget

abbrev pub entering_of : Onto → Result Lookup Refusal → List ℕ → Entering
entering_of o answer looks = record { entered = entered_at o answer; looks = looks; visited = o.visited; met = o.met }

unfoldable pub enter : List ℕ → List ℕ → List ℕ → Walk → List ℕ → ℕ → ℕ → Entering
enter looks v m w arena size budget =
    let hit = look_up looks arena size w.way.tile in
    cond (goes_on w.ending) (entering_of (entered_by v m w hit.answer arena budget) hit.answer hit.looks)
    (record { entered = record { walk = w; first = 0; len = 0 }; looks = looks; visited = v; met = m })

abbrev pub next_by : Walk → Result Lookup Refusal → List ℕ → Walk
next_by w answer arena = next_look (in_bytes answer arena) w

unfoldable pub decided : List ℕ → List ℕ → ℕ → Walk → Decision → Stride (List ℕ)
decided looks arena size w d = decided_over (in_looks arena size) w looks d

unfoldable pub onward : List ℕ → List ℕ → ℕ → Walk → Crossing → Stride (List ℕ)
onward looks arena size w x = onward_over (in_looks arena size) w (ways_of x looks)

unfoldable pub crossed : List ℕ → List ℕ → List ℕ → Header → Walk → Track → List ℕ → Leg → Stride (List ℕ)
crossed looks v arena h w t bs leg = crossed_over (in_looks arena h.tile) h v w t looks bs leg

unfoldable pub follow : List ℕ → List ℕ → List ℕ → List ℕ → Trip → ℕ → Walk → Track → List ℤ → Run (List ℕ)
follow looks v m arena trip budget w t hs =
    walk_to (in_looks arena trip.header.tile) trip budget
    (record { walk = w; track = t; visited = v; met = m; carried = looks; heights = hs }) 2000

abbrev pub followed : Run (List ℕ) → Followed
followed r = record { walk = r.walk; track = r.track }

abbrev pub walked : Run (List ℕ) → Walked
walked r = record { walk = r.walk; course = course_of r.track }
