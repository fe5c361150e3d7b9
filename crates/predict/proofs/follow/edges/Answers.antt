-- `predict::follow::edges` meets its contract. The edge loop's invariant: the walk is the definition's over as many edges; that of the loop over
-- an edge's points: the track is the definition's over as many points, and not over. The ways out: the edges have run out, the walk ended on
-- an edge, or it came to its horizon.
use Prim.Native.Nat.{ℕ, ◌+◌, ◌-◌, ◌≤◌}
use mathlib.Core.Path.{◌≡◌, refl, sym, ap, ◌∙◌}
use mathlib.Core.Bool.{true, false}
use mathlib.Core.List.{List}
use native.Mathlib.Omega.{arith}
use lib.IntN.{ℤ}
use borrow.Author.Tests.{not-true, not-false}
use Rattle.cache.specs.Reader.{in_looks}
use Rattle.predict.specs.declared.Trip.{Trip}
use Rattle.predict.specs.declared.Track.{Track}
use Rattle.predict.specs.declared.outgoing.Leg.{Leg}
use Rattle.predict.specs.Outgoing.{last_of}
use Rattle.predict.specs.Vertex.{Along, track_of, vertices}
use Rattle.predict.proofs.VertexLaws.{along_of, left_whole, vertices_start}
use Rattle.predict.specs.declared.Walk.{Walk}
use Rattle.predict.specs.Walk.{Onto, Stride, Run, Entering, goes_on, reached, run_of, edge_step, enter, follow}
use Rattle.predict.proofs.WalkLaws.{walk_start}
use Rattle.predict.proofs.FollowLaws.{points_start, points_on, points_over, step_ended, step_over, step_on, walk_on, walk_whole, Leaves, edges_is, reached_ends}
use Rattle.predict.proofs.follow.edges.Goals as goal
use Rattle.predict.proofs.follow.edges.Invariants.{onto}
use Rattle.predict.proofs.follow.edges.Lts as lts
use Rattle.predict.proofs.follow.edges.Tie as tie
use Rattle.predict.proofs.follow.edges.Reads as reads

-- what `crossed` gives back and leaves in the numbers that it is lent
crossed_is : {w : Walk} {looks : List ℕ} {x : Stride (List ℕ)} → w ≡ x.walk → looks ≡ x.carried
    → ◌≡◌ {A = Stride (List ℕ)} (record { walk = w; carried = looks }) x
crossed_is p q = λ i. record { walk = p i; carried = q i }

-- the places of the code that what follows is said of

abbrev Entered : Type 0
Entered = lts.After-enter tie.the-claims reads.Pre reads.Post goal.the-invariant-points goal.the-decreases-points goal.the-invariant-edges goal.the-decreases-edges tie.handed_clauses

abbrev Followed : Type 0
Followed = lts.After-leg_of tie.the-claims reads.Pre reads.Post goal.the-invariant-points goal.the-decreases-points goal.the-invariant-edges goal.the-decreases-edges tie.handed_clauses

abbrev Advanced : Type 0
Advanced = lts.After-advance tie.the-claims reads.Pre reads.Post goal.the-invariant-points goal.the-decreases-points goal.the-invariant-edges goal.the-decreases-edges tie.handed_clauses

-- ---- an edge entered: the walk at its start, the walk before the edge, and what `enter` gave

module _ (q : Entered) where
  abbrev arena : List ℕ
  arena = q.before.before.before.before.before.before.before.before.args.arena.now

  abbrev trip : Trip
  trip = q.before.before.before.before.before.before.before.before.args.trip

  abbrev budget : ℕ
  budget = q.before.before.before.before.before.before.before.before.args.budget

  abbrev start : Run (List ℕ)
  start =
      let args = q.before.before.before.before.before.before.before.before.args in
      run_of (onto args.start args.visited.now args.met.now)
      (track_of args.first args.lats.now args.lons.now args.distances.now) args.looks.now args.heights.now

  abbrev behind : Onto
  behind = let edges = q.before.before.before.before.before.edges in onto edges.w edges.visited edges.met

  abbrev track : Track
  track = let edges = q.before.before.before.before.before.edges in track_of edges.t edges.lats edges.lons edges.distances

  abbrev looks : List ℕ
  looks = q.before.before.before.before.before.edges.looks

  abbrev heights : List ℤ
  heights = q.before.before.before.before.before.edges.heights

  abbrev entered : Entering
  entered =
      record { entered = q.enter-e.result; looks = q.enter-e.new.looks; visited = q.enter-e.new.visited; met = q.enter-e.new.met }

  came : entered ≡ enter looks behind.visited behind.met behind.walk arena trip.header.tile budget
  came =
      let e = q.enter-e.ensures in
      λ i. record { entered = e.value i; looks = e.looks_after i; visited = e.visited_after i; met = e.met_after i }

  -- the edge loop is left on it
  left_here : (y : Run (List ℕ)) → edge_step (in_looks arena trip.header.tile) trip budget (run_of behind track looks heights) ≡ y
      → goes_on y.walk.ending ≡ false
      → Leaves (follow start.carried start.visited start.met arena trip budget start.walk start.track start.heights) y
  left_here y step ends =
      let edges = q.before.before.before.before.before.edges in
      edges_is arena trip budget start y
      (walk_whole arena trip budget start (run_of behind track looks heights) y edges.n edges.invariant.1.1 step ends q.before.before.before.before.edges-test.true)

-- ---- and followed

module _ (p : Followed) where
  abbrev edge : Entered
  edge = p.before.before.before.before.before.before.before

  abbrev walk : Walk
  walk = (entered edge).entered.walk

  abbrev bytes : List ℕ
  bytes = p.before.before.before.run_bytes-bytes.result.now

  abbrev leg : Leg
  leg = p.leg_of-leg.result

  abbrev lon_um : ℕ
  lon_um = p.before.before.head-head.result.lon_um

  abbrev first : Along
  first = along_of (track edge) (heights edge)

  -- n of its points
  abbrev along : ℕ → Along
  along n = vertices (trip edge) leg bytes lon_um walk.from first n

  goes : goes_on walk.ending ≡ true
  goes = sym p.before.before.before.before.before.goes_on.ensures ∙ not-false _ p.before.before.before.before.if-not-goes_on.false-raw

  -- the road is over on it
  over_here : (b : Along) (n : ℕ) → b ≡ along n → b.track.over ≡ true → n ≤ last_of leg + 1 - walk.from
      → (m : Walk) → m ≡ reached walk
      → Leaves
      (follow (start edge).carried (start edge).visited (start edge).met (arena edge) (trip edge) (budget edge) (start edge).walk (start edge).track
      (start edge).heights)
      (run_of (onto m (entered edge).visited (entered edge).met) b.track (entered edge).looks b.heights)
  over_here b n come over h m ends =
      left_here edge _
      (step_over (arena edge) (trip edge) (budget edge) (behind edge) (track edge) (looks edge) (heights edge) (entered edge) (came edge) goes
      bytes p.before.before.before.run_bytes-bytes.ensures p.before.before.head-head.result p.before.before.head-head.ensures leg p.leg_of-leg.ensures b
      (points_over (trip edge) leg bytes lon_um walk.from first b n (last_of leg + 1 - walk.from) come over h) m ends over)
      (reached_ends m walk ends)

-- ---- a point further

module _ (a : Advanced) where
  abbrev followed : Followed
  followed = a.before.before.before.before.before.before.before.before.before.before.before

  abbrev there : Along
  there =
      let left = a.advance-t.new in
      along_of (track_of a.advance-t.result left.lats left.lons left.distances) left.heights

  there_is : there ≡ along followed (a.before.before.before.before.before.before.points.i + 1 - (walk followed).from)
  there_is =
      let points = a.before.before.before.before.before.before.points in
      points_on (trip (edge followed)) (leg followed) (bytes followed) (lon_um followed) (walk followed).from (first followed) points.i
      (track_of points.t points.lats points.lons points.distances) points.heights
      points.invariant.0 points.invariant.1.1.1.1.0 points.invariant.1.1.1.1.1 there
      (left_whole _ a.advance-t.result there.heights there.track.history.lats there.track.history.lons there.track.history.distances
      (a.advance-t.ensures.value, (a.advance-t.ensures.heights_after, (a.advance-t.ensures.lats_after, (a.advance-t.ensures.lons_after, a.advance-t.ensures.distances_after)))))

-- ---- the answers

pub edges-init : goal.edges-init
edges-init c =
    let args = c.args in
    let start = onto args.start args.visited.now args.met.now in
    let first = track_of args.first args.lats.now args.lons.now args.distances.now in (
      omega arith,
      (
        refl,
        sym
            (walk_start (in_looks args.arena.now args.trip.header.tile) args.trip args.budget
            (run_of start first args.looks.now args.heights.now)),
      ),
    )

pub points-init : goal.points-init
points-init c = (
  omega arith,
  (
    omega arith,
    (refl, (refl, (c.if-t.false, points_start (trip (edge c.before.before.before.before.before)) (leg c.before.before.before.before.before) (bytes c.before.before.before.before.before) (lon_um c.before.before.before.before.before) (walk c.before.before.before.before.before).from (first c.before.before.before.before.before)))),
  ),
)

pub advance-t-requires : goal.advance-t-requires
advance-t-requires c =
    let base = c.vertices_at-base in
    record {
      base_bound = base.ensures.upper_bound;
      base_value = base.ensures.value;
    }

pub overflow_add-i : goal.overflow_add-i
overflow_add-i c = omega (arith, c.points-test.true, c.struct_known-1)

pub points-smaller : goal.points-smaller
points-smaller c = omega (arith, c.points-test.true)

pub points-preserved : goal.points-preserved
points-preserved c =
    let points = c.points in (
      omega (arith, points.invariant.0),
      (
        omega (arith, points.invariant.0, c.points-test.true),
        (
          c.advance-t.auto.heights ∙ points.invariant.1.1.0,
          (points.invariant.1.1.1.0, (c.if-t-2.false, there_is c.before.before.before)),
        ),
      ),
    )

pub overflow_add-n : goal.overflow_add-n
overflow_add-n c = omega (arith, c.edges-test.true)

pub edges-smaller : goal.edges-smaller
edges-smaller c = omega (arith, c.edges-test.true)

pub edges-preserved : goal.edges-preserved
edges-preserved c =
    let q = edge c.before.before.before.before.before.before.before.before.before in
    let edges = c.edges in
    let points = c.points in
    let b = along_of (track_of points.t points.lats points.lons points.distances) points.heights in
    let all : points.i - (walk c.before.before.before.before.before.before.before.before.before).from ≡ last_of (leg c.before.before.before.before.before.before.before.before.before) + 1 - (walk c.before.before.before.before.before.before.before.before.before).from =
    omega (arith, points.invariant.0, points.invariant.1.0, c.points-test.false)
    in
    let crossed = c.crossed-w in (
      omega (arith, c.edges-test.true),
      (
        points.invariant.1.1.0 ∙ edges.invariant.1.0,
        walk_on (arena q) (trip q) (budget q) (start q) (run_of (behind q) (track q) (looks q) (heights q))
            (run_of (onto crossed.result (entered q).visited (entered q).met) b.track crossed.new.looks points.heights)
            edges.n edges.invariant.1.1
            (step_on (arena q) (trip q) (budget q) (behind q) (track q) (looks q) (heights q) (entered q) (came q) (goes c.before.before.before.before.before.before.before.before.before)
            (bytes c.before.before.before.before.before.before.before.before.before) c.run_bytes-bytes.ensures c.head-head.result c.head-head.ensures (leg c.before.before.before.before.before.before.before.before.before) c.leg_of-leg.ensures
            b (sym (points.invariant.1.1.1.1.1 ∙ ap (along c.before.before.before.before.before.before.before.before.before) all))
            (record { walk = crossed.result; carried = crossed.new.looks })
            (rw points.invariant.1.1.1.0 at (crossed_is crossed.ensures.value crossed.ensures.looks_after)) points.invariant.1.1.1.1.0),
      ),
    )

pub shape_of-heights-after-edges : goal.shape_of-heights-after-edges
shape_of-heights-after-edges c = c.edges.invariant.1.0

pub returns-after-edges : goal.returns-after-edges
returns-after-edges c =
    let args = c.args in
    let edges = c.edges in
    let all : edges.n ≡ 2000 = omega (arith, edges.invariant.0, c.edges-test.false) in
    let whole =
    edges_is args.arena.now args.trip args.budget
    (run_of (onto args.start args.visited.now args.met.now)
    (track_of args.first args.lats.now args.lons.now args.distances.now) args.looks.now args.heights.now)
    (run_of (onto edges.w edges.visited edges.met) (track_of edges.t edges.lats edges.lons edges.distances) edges.looks edges.heights)
    (rw all at edges.invariant.1.1)
    in record { value = whole.0; looks_after = whole.1.0; visited_after = whole.1.1.0; met_after = whole.1.1.1.0; heights_after = whole.1.1.1.1.0; lats_after = whole.1.1.1.1.1.0; lons_after = whole.1.1.1.1.1.1.0; distances_after = whole.1.1.1.1.1.1.1 }

pub shape_of-heights-then-not-goes_on : goal.shape_of-heights-then-not-goes_on
shape_of-heights-then-not-goes_on c = c.edges.invariant.1.0

pub returns-then-not-goes_on : goal.returns-then-not-goes_on
returns-then-not-goes_on c =
    let ends = sym c.goes_on.ensures ∙ not-true _ c.if-not-goes_on.true-raw in
    let whole =
    left_here c.before.before.before.before _
    (step_ended (arena c.before.before.before.before) (trip c.before.before.before.before) (budget c.before.before.before.before) (behind c.before.before.before.before) (track c.before.before.before.before) (looks c.before.before.before.before) (heights c.before.before.before.before) (entered c.before.before.before.before) (came c.before.before.before.before) ends) ends
    in record { value = whole.0; looks_after = whole.1.0; visited_after = whole.1.1.0; met_after = whole.1.1.1.0; heights_after = whole.1.1.1.1.0; lats_after = whole.1.1.1.1.1.0; lons_after = whole.1.1.1.1.1.1.0; distances_after = whole.1.1.1.1.1.1.1 }

pub shape_of-heights-then-t : goal.shape_of-heights-then-t
shape_of-heights-then-t c = c.edges.invariant.1.0

pub returns-then-t : goal.returns-then-t
returns-then-t c = let whole =
    over_here c.before.before.before.before.before (first c.before.before.before.before.before) 0 (sym (vertices_start (trip (edge c.before.before.before.before.before)) (leg c.before.before.before.before.before) (bytes c.before.before.before.before.before) (lon_um c.before.before.before.before.before) (walk c.before.before.before.before.before).from (first c.before.before.before.before.before))) c.if-t.true
    (omega arith) c.reached-w.result c.reached-w.ensures
    in record { value = whole.0; looks_after = whole.1.0; visited_after = whole.1.1.0; met_after = whole.1.1.1.0; heights_after = whole.1.1.1.1.0; lats_after = whole.1.1.1.1.1.0; lons_after = whole.1.1.1.1.1.1.0; distances_after = whole.1.1.1.1.1.1.1 }

pub shape_of-heights-then-t-2 : goal.shape_of-heights-then-t-2
shape_of-heights-then-t-2 c = c.advance-t.auto.heights ∙ c.points.invariant.1.1.0 ∙ c.edges.invariant.1.0

pub returns-then-t-2 : goal.returns-then-t-2
returns-then-t-2 c =
    let p = followed c.before.before.before.before in
    let points = c.points in
    let whole =
    over_here p (there c.before.before.before.before) (points.i + 1 - (walk p).from) (there_is c.before.before.before.before) c.if-t-2.true (omega (arith, c.points-test.true))
    c.reached-w-then-t-2.result (rw points.invariant.1.1.1.0 at c.reached-w-then-t-2.ensures)
    in record { value = whole.0; looks_after = whole.1.0; visited_after = whole.1.1.0; met_after = whole.1.1.1.0; heights_after = whole.1.1.1.1.0; lats_after = whole.1.1.1.1.1.0; lons_after = whole.1.1.1.1.1.1.0; distances_after = whole.1.1.1.1.1.1.1 }
