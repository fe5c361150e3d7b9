-- Demand 3's theorem is not empty: a list of calls, computed from the definitions, in which its premises hold (`fair`), reads fail (`header_missed`,
-- `entry_missed`), a tile is evicted and loaded again (`answered`, `ready`, `evicted`), fixes come while a fetch is open, and a match and a road are
-- finished (`finished`) and read (`read`): so they are the direct engine's (`direct_finished`).
use Rattle.std.specs.Prelude.{Ok}
use Prim.Native.Nat.{ℕ, ◌+◌, ◌≤◌}
use mathlib.Core.Path.{◌≡◌, refl, ◌∙◌}
use mathlib.Core.List.{[], ◌∷◌}
use native.Mathlib.Omega.{arith}
use lib.Ieee as Ieee
use lib.Ieee.{Float, fin}
use lib.ListN.{length, replicate}
use Rattle.cache.specs.declared.Lookup.TheVariants as Lookup
use Rattle.cache.specs.declared.look.Landing.TheVariants as Landing
use Rattle.cache_lists.specs.Claims.{Parsed}
use Rattle.cache.specs.declared.Progress.TheVariants as Progress
use Rattle.engine.specs.declared.Status.TheVariants as Status
use Rattle.crc.specs.Fcs as Fcs
use Rattle.num.specs.Convert as Convert
use Rattle.num.specs.Fold as Fold
use Rattle.num.specs.Root as Root
use Rattle.angle.specs.Bearing as Bearing
use Rattle.angle.specs.Cosine as Cosine
use Rattle.pack.specs.Bytes as Bytes
use Rattle.pack.specs.Sector as Sector
use Rattle.pack.specs.Grid as Grid
use Rattle.tile.specs.Layout as Layout
use Rattle.tile.specs.Order as Order
use Rattle.tile.specs.Parse as Parse
use Rattle.geo.specs.Flat as Flat
use Rattle.geo.specs.Points as Points
use Rattle.cache.specs.Runs as Runs
use Rattle.cache.specs.Evict as Evict
use Rattle.cache.specs.Victim as Victim
use Rattle.cache.specs.Search as Search
use Rattle.cache.specs.Keys as Keys
use Rattle.cache.specs.Lookups as Lookups
use Rattle.cache.specs.State as Caches
use Rattle.cache.specs.Calls as CacheCalls
use Rattle.cache.specs.Direct as Looks
use Rattle.cache.specs.Loads as Loads
use Rattle.cache_lists.specs.Lists as Cached
use Rattle.matcher.specs.Scan as Scan
use Rattle.matcher.specs.Score as Score
use Rattle.matcher.specs.Keeping as Keeping
use Rattle.matcher.specs.Tile as Tile
use Rattle.matcher.specs.Near as Near
use Rattle.matcher.specs.Choose as Choose
use Rattle.matcher.specs.Settle as Settle
use Rattle.matcher.specs.Gather as Gather
use Rattle.predict.specs.Samples as Samples
use Rattle.predict.specs.Incoming as Incoming
use Rattle.predict.specs.Start as Start
use Rattle.predict.specs.Ridden as Ridden
use Rattle.predict.specs.Vertex as Vertex
use Rattle.predict.specs.Meets as Meets
use Rattle.predict.specs.Visits as Visits
use Rattle.predict.specs.Walk as Walk
use Rattle.predict.specs.Predict as Predict
use Rattle.engine.specs.Fixes as Fixes
use Rattle.engine.specs.Publish as Publish
use Rattle.engine.specs.Follow as Followers
use Rattle.engine.specs.State as Engines
use Rattle.engine.specs.Work as Work
use Rattle.engine.specs.Deliver as Deliver
use Rattle.engine.specs.Steps as Steps
use Rattle.engine.specs.Calls as Calls
use Rattle.direct.specs.Lists.{taken, status, cached, exec}
use Rattle.direct.specs.Finished.{shown, step_shown, task_of}
use Rattle.direct.specs.Direct.{directly, new_direct, direct_shows}
use Rattle.direct.specs.Claims.{tolds, shows, AllFair, made_of}
use Rattle.direct.specs.Story as Story
use Rattle.direct.specs.Published.{read_of}
use Rattle.direct.proofs.Claim.{all_direct}
use Rattle.direct_witness.specs.Witness.{Witness, pack, header, road_key, horizon, begin, road, calls, answers, after, finishes}

-- ---- what is computed with: to name one of these on an `unfolding` line is to name all that its own line names

-- the check sequence
unfoldable pub sums : Unit {0}
unfolding Fcs.add Fcs.lower Fcs.divide Fcs.remainder Fcs.zeros Fcs.bits Fcs.number Fcs.message Fcs.fcs Fcs.crc32 Fcs.zeroed Fcs.crc32_skipping
sums = tt

-- floats and angles
unfoldable pub floats : Unit {0}
unfolding Ieee.span Ieee.climb Ieee.size Ieee.odd Ieee.units Ieee.round Ieee.neg Ieee.sum Ieee.add Ieee.sub Ieee.mul Ieee.div Ieee.lt Ieee.eq Ieee.le Ieee.is_nan Ieee.of_int Ieee.to_unsigned Ieee.to_signed Ieee.of_fields Ieee.of_bits Convert.narrow Fold.up_to Root.root_in Root.whole_root Root.near_root Root.square_root Bearing.series Bearing.arc Bearing.quarter Bearing.degrees Bearing.bearing Cosine.cos_near Cosine.cosine Cosine.lon_scale_um
floats = tt

-- header, directory and tiles
unfoldable pub bytes : Unit {0}
unfolding Bytes.u16_at Bytes.u32_at Bytes.i32_at Bytes.u64_at Sector.rules Sector.parse Grid.checked_of Grid.key_of Grid.corner_of Grid.entry_of Grid.locate_of Grid.read Layout.place_at Layout.edge_of Layout.point_of Parse.all_below Order.follows Parse.node_ok Parse.edge_fits Parse.entry_ok Parse.accepts
bytes = tt

-- points
unfoldable pub points : Unit {0}
unfolding Flat.metres_of Flat.length_of Flat.turn_of Flat.project_of Flat.bearing_of Points.point_of
points = tt

-- pages and cache
unfoldable pub pages : Unit {0}
unfolding Runs.span Runs.all_below Runs.run_ok Evict.fill Evict.evicted_page Evict.evicted Victim.since Victim.age Victim.least_of Victim.best_of Search.lowest Keys.in_ring Keys.is_ready Keys.ready_at Lookups.lands_on Lookups.passes Lookups.touched Lookups.got Lookups.next_step Caches.fresh Caches.tile_loads Caches.state_ok Caches.cache_ok CacheCalls.get Looks.look Looks.looked
pages = tt

-- loads
unfoldable pub loads : Unit {0}
unfolding Loads.chunk_len Loads.moved Loads.dropped Loads.began Loads.entry_step Loads.put Loads.readied Loads.ended Loads.chunk_step CacheCalls.fetch CacheCalls.load CacheCalls.load_from Cached.exec
loads = tt

-- a match
unfoldable pub matching : Unit {0}
unfolding Scan.point_of Scan.segment_step Scan.scanned Scan.along_to Score.aimed Score.height Score.aim_at Score.candidate_at Keeping.insert Tile.edge_step Tile.search Near.has Near.push Near.add Near.around Near.near_of Choose.least_to Choose.past_node Settle.runner_to Settle.confidence Settle.settled Settle.matched Gather.run_to Gather.update_over Gather.updated
matching = tt

-- a road
unfoldable pub roads : Unit {0}
unfolding Samples.height_at Samples.push_from Incoming.highest Start.part_way Start.start_ok Start.place Ridden.back_step Ridden.backs_to Ridden.backs Ridden.last_sample Ridden.ridden Vertex.node_at Vertex.reached Vertex.advanced Vertex.vertices Meets.has_met Meets.meet Visits.visit Walk.with_ending Walk.reached Walk.along Walk.walk_to Predict.track_from Predict.walk_from Predict.prediction Predict.road_over Predict.forecast_over Predict.predicted_in
roads = tt

-- the engine
unfoldable pub engine : Unit {0}
unfolding Fixes.push Fixes.moved_from Fixes.course_of Fixes.seen Publish.nothing_ahead Publish.with_match Followers.fresh Followers.fixed Engines.shared_ok Engines.places_ok Engines.engine_ok Work.matched Work.match_step Work.published Work.road_step Work.at_fix Work.worked Deliver.sector_of Deliver.header_failed Deliver.header_came Deliver.arrived Deliver.load_failed Deliver.part_came Deliver.delivered Steps.need_step Steps.started Steps.stepped Calls.fix Calls.step Calls.deliver Calls.answered_from Calls.step_from
engine = tt

-- and the calls of a list
unfoldable pub lists : Unit {0}
unfolding sums floats bytes points pages loads matching roads engine shown step_shown task_of exec
lists = tt

-- ---- what is answered

-- the tile stands in page 0 at the first `get`, and is gone at the second
pub answered : answers calls begin
    ≡ status (Ok (Status.Fetch 0 512)) ∷ status (Ok Status.Working) ∷ status (Ok (Status.Fetch 0 512)) ∷ taken (Ok tt) ∷ status (Ok Status.Working)
    ∷ status (Ok Status.Working) ∷ status (Ok (Status.Fetch 512 8)) ∷ status (Ok Status.Working) ∷ status (Ok Status.Working) ∷ status (Ok (Status.Fetch 528 68)) ∷ taken (Ok tt) ∷ status (Ok Status.Working)
    ∷ cached (Cached.found (Ok (Lookup.Ready 0 68))) ∷ cached (Cached.stepped (Ok Progress.More)) ∷ cached (Cached.stepped (Ok Progress.Done))
    ∷ cached (Cached.found (Ok Lookup.Absent))
    ∷ status (Ok Status.Working) ∷ status (Ok Status.Working) ∷ status (Ok Status.Working) ∷ status (Ok Status.Working) ∷ status (Ok Status.Working) ∷ status (Ok Status.Idle)
    ∷ []
unfolding lists answers
answered = refl

-- ---- what is finished

pub finished : shows calls begin ≡ finishes
unfolding lists shows
finished = refl

-- ---- what is missed and evicted

-- a missed read of the header is counted, and one of the entry
pub header_missed : (after 2).engine.follower.failures ≡ 1
unfolding lists Story.after
header_missed = refl

pub entry_missed : (after 8).engine.follower.failures ≡ 1
unfolding lists Story.after
entry_missed = refl

pub ready : Lookups.lands_on (after 13).engine.shared.cache road_key ≡ Landing.At 0
unfolding lists Story.after
ready = refl

pub evicted : Lookups.lands_on (after 15).engine.shared.cache road_key ≡ Landing.Nothing
unfolding lists Story.after
evicted = refl

-- ---- what is read

-- the road that was finished stands published after the last call
pub read : read_of (Story.after calls begin) ≡ road
unfolding lists Story.after Calls.ahead
read = refl

-- ---- the premises

pub parsed : Parsed pack header
unfolding lists
parsed = record { whole = omega arith; parses = refl }

pub sector_inside : 0 + 512 ≤ length pack
sector_inside = omega arith

pub tile_inside : 528 + 68 ≤ length pack
tile_inside = omega arith

pub no_failure : {A : Type 0} → ◌≡◌ {A = ℕ} 1 0 → A
no_failure e = absurd (omega (arith, e))

-- of each call in its order: a read that failed brings nothing, what is delivered is what the pack has there, the pack that is lent is the pack, and
-- a header that is given is the pack's
pub fair : AllFair pack calls begin
unfolding lists AllFair
fair = (
  tt,
  (
    λ a. no_failure,
    (
      tt,
      (
        tt,
        (
          λ a f e. (sector_inside, refl),
          (
            tt,
            (
              tt,
              (
                λ a. no_failure,
                (
                  λ i. (i, refl),
                  (
                    tt,
                    (
                      tt,
                      (
                        λ a f e. (tile_inside, refl),
                        (
                          parsed,
                          (
                            (parsed, λ i. (i, refl)),
                            (
                              (parsed, λ i. (i, refl)),
                              (
                                parsed,
                                (tt, (λ i. (i, refl), (λ i. (i, refl), (tt, (tt, (tt, tt)))))),
                              ),
                            ),
                          ),
                        ),
                      ),
                    ),
                  ),
                ),
              ),
            ),
          ),
        ),
      ),
    ),
  ),
)

-- ---- so the direct engine finishes them

pub direct_finished : direct_shows (directly 1) (made_of 1 horizon) pack calls (tolds calls begin) new_direct ≡ finishes
direct_finished = all_direct 1 (omega arith) horizon (replicate 8192 0) pack calls fair ∙ finished

-- ---- all of it

pub witness : Witness
witness = record {
  answered = answered;
  finished = finished;
  header_missed = header_missed;
  entry_missed = entry_missed;
  ready = ready;
  evicted = evicted;
  read = read;
  fair = fair;
  direct_finished = direct_finished;
}
