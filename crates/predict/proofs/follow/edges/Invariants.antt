-- `predict::follow::edges` meets its contract. The edge loop's invariant: the walk is the definition's over as many edges; that of the loop over
-- an edge's points: the track is the definition's over as many points, and not over. The ways out: the edges have run out, the walk ended on
-- an edge, or it came to its horizon.
use Prim.Native.Nat.{ℕ, ◌+◌, ◌-◌, ◌≤◌}
use mathlib.Core.Path.{◌≡◌}
use mathlib.Core.Bool.{false}
use mathlib.Core.List.{List}
use lib.ListN.{length}
use Rattle.cache.specs.Reader.{in_looks}
use Rattle.predict.specs.Vertex.{track_of, vertices}
use Rattle.predict.proofs.VertexLaws.{along_of}
use Rattle.predict.specs.declared.Walk.{Walk}
use Rattle.predict.specs.Walk.{Onto, run_of, walk_to}
use Rattle.predict.proofs.follow.edges.Given as goal

abbrev pub onto : Walk → List ℕ → List ℕ → Onto
onto w v m = record { walk = w; visited = v; met = m }

abbrev pub invariant-points : goal.invariant-points
invariant-points l =
    (l.initial.i ≤ l.i)
    × ((l.i - l.initial.i ≤ l.last + 1 - l.initial.i)
    × ((length l.heights ≡ length l.initial.heights)
    × ((l.w ≡ l.initial.w)
    × ((l.t.over ≡ false)
    × (along_of (track_of l.t l.lats l.lons l.distances) l.heights
    ≡ vertices l.trip l.leg l.bytes l.head.lon_um l.initial.i (along_of (track_of l.initial.t l.initial.lats l.initial.lons l.initial.distances) l.initial.heights) (l.i - l.initial.i))))))

abbrev pub decreases-points : goal.decreases-points
decreases-points l = l.last + 1 - l.i

abbrev pub invariant-edges : goal.invariant-edges
invariant-edges l =
    (l.n ≤ 2000)
    × ((length l.heights ≡ length l.initial.heights)
    × (run_of (onto l.w l.visited l.met) (track_of l.t l.lats l.lons l.distances) l.looks l.heights
    ≡ walk_to (in_looks l.arena l.trip.header.tile) l.trip l.budget
    (run_of (onto l.initial.w l.initial.visited l.initial.met) (track_of l.initial.t l.initial.lats l.initial.lons l.initial.distances) l.initial.looks l.initial.heights) l.n))

abbrev pub decreases-edges : goal.decreases-edges
decreases-edges l = 2000 - l.n
