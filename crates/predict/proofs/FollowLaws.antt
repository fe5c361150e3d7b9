-- The turns of the edge loop of `edges`. One edge is the definition's: where the walk ends on it (`step_ended`), at its horizon
-- (`step_over`) and at its junction (`step_on`), by the points of the leg (`points_on`, `points_over`). A walk that ended is the whole
-- (`walk_whole`). The idea: an edge that a walk goes on along was answered with bytes, and the points stay as they are once the road is over.
use Rattle.refusal.specs.declared.Refusal.{Refusal}
use Rattle.std.specs.Prelude.{Result, Ok, Err}
use Prim.Native.Nat.{ℕ, ◌+◌, ◌-◌, ◌<◌, ◌≤◌}
use mathlib.Core.Path.{◌≡◌, refl, sym, ap, ◌∙◌}
use mathlib.Core.Bool.{Bool, true, false, cond, true≢false}
use mathlib.Core.List.{List}
use native.Mathlib.Omega.{arith}
use lib.IntN.{ℤ}
use lib.Ieee.{Float}
use Rattle.tile.specs.Layout as Layout
use Rattle.tile.specs.declared.Head.{Head}
use Rattle.cache.specs.declared.Lookup.{Lookup}
use Rattle.cache.specs.Direct.{Look, ready, missing, absent, stale}
use Rattle.cache.specs.Ages.{Hit, look_up, bytes_of}
use Rattle.cache.specs.Reader.{Reader, in_bytes, in_looks}
use Rattle.predict.specs.declared.outgoing.Leg.{Leg}
use Rattle.predict.specs.declared.Track.{Track}
use Rattle.predict.specs.declared.Trip.{Trip}
use Rattle.predict.specs.Vertex.{Along, advanced, vertices, to_end, track_of}
use Rattle.predict.proofs.VertexLaws.{along_of, vertices_start, vertices_on, vertices_over}
use Rattle.predict.specs.declared.Walk.{Walk}
use Rattle.predict.specs.Walk.{with_ending, reached, Onto, enter_look, carried_by, Stride, Run, goes_on, leg_of, along, run_of, crossed_run, reached_run, driven_to, driven, edge_look, edge_step, walk_to, first_of, len_of, Entering, entering_of, enter, crossed, follow, followed, walked}
use Rattle.predict.specs.declared.Followed.{Followed}
use Rattle.predict.specs.declared.Walked.{Walked}
use Rattle.predict.proofs.Looks.{look_carried}
use Rattle.predict.proofs.WalkLaws.{walk_turn, walk_stays}

-- ---- the points of a leg

module _ (trip : Trip) (leg : Leg) (bs : List ℕ) (lon_um from : ℕ) (a : Along) where
  pub points_start : a ≡ vertices trip leg bs lon_um from a (from - from)
  points_start = let none : from - from ≡ 0 = omega arith in rw none (sym (vertices_start trip leg bs lon_um from a))

  -- point i, where the road isn't over
  pub points_on : (i : ℕ) (t : Track) (hs : List ℤ) → from ≤ i → t.over ≡ false → along_of t hs ≡ vertices trip leg bs lon_um from a (i - from)
      → (b : Along) → b ≡ advanced trip leg bs lon_um t i hs → b ≡ vertices trip leg bs lon_um from a (i + 1 - from)
  points_on i t hs h on e b moves =
      let same : from + (i - from) ≡ i = omega arith in
      let next : i + 1 - from ≡ i - from + 1 = omega arith in
      let turn = vertices_on trip leg bs lon_um from a (i - from) (ap (λ (x : Along). x.track.over) (sym e) ∙ on) in
      rw (moves, next) (sym (rw (same, ← e) at turn))

  -- and once it is
  pub points_over : (b : Along) (k n : ℕ) → b ≡ vertices trip leg bs lon_um from a k → b.track.over ≡ true → k ≤ n
      → vertices trip leg bs lon_um from a n ≡ b
  points_over b k n e over h =
      vertices_over trip leg bs lon_um from a k n (ap (λ (x : Along). x.track.over) (sym e) ∙ over) h ∙ sym e

-- ---- an edge, by any reader

module _ {S : Type 0} (rd : Reader S) (trip : Trip) (budget : ℕ) (o : Onto) (k : Track) (s : S) (hs : List ℤ) where
  look_ended : (l : Look) → goes_on (enter_look l o.visited o.met o.walk budget).walk.ending ≡ false
      → edge_look rd trip budget l (run_of o k s hs)
      ≡ run_of (enter_look l o.visited o.met o.walk budget) k (carried_by l rd s o.walk.way.tile) hs
  look_ended (ready bs) e = rw e
  look_ended missing e = refl
  look_ended absent e = refl
  look_ended stale e = refl

  -- on an edge whose tile was answered in pages
  look_going : (arena : List ℕ) (l : Result Lookup Refusal) → goes_on (enter_look (in_bytes l arena) o.visited o.met o.walk budget).walk.ending ≡ true
      → edge_look rd trip budget (in_bytes l arena) (run_of o k s hs)
      ≡ driven rd trip budget (enter_look (in_bytes l arena) o.visited o.met o.walk budget) k (rd.found s o.walk.way.tile)
      (bytes_of arena (first_of l) (len_of l)) hs
  unfolding with_ending
  look_going arena (Ok (Lookup.Ready first len)) e = rw e
  look_going arena (Ok Lookup.Missing) e = absurd (true≢false (sym e))
  look_going arena (Ok Lookup.Absent) e = absurd (true≢false (sym e))
  look_going arena (Err number) e = absurd (true≢false (sym e))

-- ---- what the code gives back, and leaves in the lists that it is lent

abbrev pub Leaves : Run (List ℕ) → Run (List ℕ) → Type 0
Leaves f y =
    (walked y ≡ walked f)
    × ((y.carried ≡ f.carried)
    × ((y.visited ≡ f.visited)
    × ((y.met ≡ f.met)
    × ((y.heights ≡ f.heights)
    × ((y.track.history.lats ≡ f.track.history.lats)
    × ((y.track.history.lons ≡ f.track.history.lons) × (y.track.history.distances ≡ f.track.history.distances)))))))

leaves : {f y : Run (List ℕ)} → y ≡ f → Leaves f y
leaves e = (
  ap walked e,
  (
    ap (λ (r : Run (List ℕ)). r.carried) e,
    (
      ap (λ (r : Run (List ℕ)). r.visited) e,
      (
        ap (λ (r : Run (List ℕ)). r.met) e,
        (
          ap (λ (r : Run (List ℕ)). r.heights) e,
          (
            ap (λ (r : Run (List ℕ)). r.track.history.lats) e,
            (ap (λ (r : Run (List ℕ)). r.track.history.lons) e, ap (λ (r : Run (List ℕ)). r.track.history.distances) e),
          ),
        ),
      ),
    ),
  ),
)

-- ---- an edge, by the code's lookups

-- what `enter` gives, as the walk with the edges and tiles behind it
abbrev pub onto_of : Entering → Onto
onto_of e = record { walk = e.entered.walk; visited = e.visited; met = e.met }

module _ (arena : List ℕ) (trip : Trip) (budget : ℕ) where
  abbrev rd : Reader (List ℕ)
  rd = in_looks arena trip.header.tile

  module _ (o : Onto) (k : Track) (looks : List ℕ) (hs : List ℤ) where
    abbrev hit : Hit
    hit = look_up looks arena trip.header.tile o.walk.way.tile

    -- by whether the walk went on before
    abbrev enter_by : Bool → Entering
    enter_by b =
        cond b (entering_of (enter_look (in_bytes hit.answer arena) o.visited o.met o.walk budget) hit.answer hit.looks)
        (record { entered = record { walk = o.walk; first = 0; len = 0 }; looks = looks; visited = o.visited; met = o.met })

    abbrev step_by : Bool → Run (List ℕ)
    step_by b = cond b (edge_look rd trip budget (rd.at looks o.walk.way.tile) (run_of o k looks hs)) (run_of o k looks hs)

    by_ended : (b : Bool) → goes_on (enter_by b).entered.walk.ending ≡ false → step_by b ≡ run_of (onto_of (enter_by b)) k (enter_by b).looks hs
    by_ended true e =
        look_ended rd trip budget o k looks hs (rd.at looks o.walk.way.tile) e
        ∙ ap (λ (x : List ℕ). run_of (onto_of (enter_by true)) k x hs) (look_carried looks arena trip.header.tile o.walk.way.tile)
    by_ended false e = refl

    by_going : (b : Bool) → goes_on o.walk.ending ≡ b → goes_on (enter_by b).entered.walk.ending ≡ true
        → step_by b ≡ driven rd trip budget (onto_of (enter_by b)) k (enter_by b).looks (bytes_of arena (enter_by b).entered.first (enter_by b).entered.len) hs
    by_going true f e = look_going rd trip budget o k looks hs arena hit.answer e
    by_going false f e = absurd (true≢false (sym e ∙ f))

    module _ (e : Entering) (came : e ≡ enter looks o.visited o.met o.walk arena trip.header.tile budget) where
      pub step_ended : goes_on e.entered.walk.ending ≡ false → edge_step rd trip budget (run_of o k looks hs) ≡ run_of (onto_of e) k e.looks hs
      unfolding enter
      step_ended ends = rw came (by_ended (goes_on o.walk.ending) (rw came at ends))

      step_going : goes_on e.entered.walk.ending ≡ true
          → edge_step rd trip budget (run_of o k looks hs)
          ≡ driven rd trip budget (onto_of e) k e.looks (bytes_of arena e.entered.first e.entered.len) hs
      unfolding enter
      step_going goes = rw came (by_going (goes_on o.walk.ending) refl (rw came at goes))

      module _ (goes : goes_on e.entered.walk.ending ≡ true) (bs : List ℕ) (read : bs ≡ bytes_of arena e.entered.first e.entered.len)
          (head : Head) (heads : head ≡ Layout.head_of bs) (leg : Leg) (legs : leg ≡ leg_of trip.header e.entered.walk.way bs) (b : Along)
          (points : to_end trip leg bs head.lon_um e.entered.walk.from (along_of k hs) ≡ b)
        where
          along_is : along trip e.entered.walk k bs hs ≡ b
          unfolding along
          along_is = rw (legs, heads) at points

          drive_by : (t : Bool) → b.track.over ≡ t
              → driven_to rd trip budget (onto_of e) e.looks bs b
              ≡ cond t (reached_run (onto_of e) b.track e.looks b.heights)
              (crossed_run rd trip budget (onto_of e) b.track e.looks bs b.heights)
          drive_by t over =
              ap (λ (x : Bool). cond x (reached_run (onto_of e) b.track e.looks b.heights)
              (crossed_run rd trip budget (onto_of e) b.track e.looks bs b.heights)) over

          step_driven : edge_step rd trip budget (run_of o k looks hs) ≡ driven_to rd trip budget (onto_of e) e.looks bs b
          step_driven = step_going goes ∙ rw (← read, along_is)

          pub step_over : (m : Walk) → m ≡ reached e.entered.walk → b.track.over ≡ true
              → edge_step rd trip budget (run_of o k looks hs)
              ≡ run_of (record { walk = m; visited = e.visited; met = e.met }) b.track e.looks b.heights
          step_over m ends over = step_driven ∙ drive_by true over ∙ rw ends

          pub step_on : (x : Stride (List ℕ))
              → x ≡ crossed e.looks e.visited arena leg.header e.entered.walk b.track bs leg
              → b.track.over ≡ false
              → edge_step rd trip budget (run_of o k looks hs)
              ≡ run_of (record { walk = x.walk; visited = e.visited; met = e.met }) b.track x.carried b.heights
          unfolding crossed
          step_on x crosses on = step_driven ∙ drive_by false on ∙ rw (crosses, legs)

  -- ---- the walk

  module _ (start x y : Run (List ℕ)) (n : ℕ) (inv : x ≡ walk_to rd trip budget start n) (step : edge_step rd trip budget x ≡ y) where
    pub walk_on : y ≡ walk_to rd trip budget start (n + 1)
    walk_on = sym step ∙ ap (edge_step rd trip budget) inv ∙ sym (walk_turn rd trip budget start n)

    pub walk_whole : goes_on y.walk.ending ≡ false → n < 2000 → y ≡ walk_to rd trip budget start 2000
    walk_whole ends h =
        walk_on ∙ sym (walk_stays rd trip budget start (n + 1) 2000 (ap (λ (r : Run (List ℕ)). goes_on r.walk.ending) (sym walk_on) ∙ ends) (omega arith))

  pub edges_is : (start y : Run (List ℕ)) → y ≡ walk_to rd trip budget start 2000
      → Leaves (follow start.carried start.visited start.met arena trip budget start.walk start.track start.heights) y
  unfolding follow
  edges_is start y e = leaves e

-- the track made whole again
pub followed_is : (y : Run (List ℕ)) (g : Walked) (lats lons : List ℤ) (ds : List Float) → g ≡ walked y
    → lats ≡ y.track.history.lats
    → lons ≡ y.track.history.lons
    → ds ≡ y.track.history.distances
    → ◌≡◌ {A = Followed} (record { walk = g.walk; track = track_of g.course lats lons ds }) (followed y)
followed_is y g lats lons ds e p q r = λ i. record {
  walk = (e i).walk;
  track = record {
    here = (e i).course.here;
    distance = (e i).course.distance;
    mark = (e i).course.mark;
    history = record { lats = p i; lons = q i; distances = r i; len = (e i).course.len };
    over = (e i).course.over;
  };
}

pub reached_ends : (m v : Walk) → m ≡ reached v → goes_on m.ending ≡ false
unfolding reached with_ending
reached_ends m v e = rw e
