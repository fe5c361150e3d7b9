-- The points of a leg one after the other, for a caller that follows a leg in its own loop: none is the start, one more is `advanced` as long
-- as the road isn't over, and then nothing changes any more; and the heights keep their length. The idea: `vertices` is a loop by index, and
-- all that is ever done to the heights is a store. `Left` is what the code leaves of a track, and `advanced_reach` and `advanced_pass` are its two
-- ways on.
use Prim.Native.Nat.{ℕ, zero, suc, ◌+◌, ◌-◌, ◌<◌, ◌≤◌}
use mathlib.Core.Path.{◌≡◌, refl, ◌∙◌}
use mathlib.Core.Bool.{Bool, true, false, cond}
use mathlib.Core.List.{List, []}
use lib.IntN.{ℤ}
use lib.Ieee.{Float, binary32, add, lt, le}
use lib.ListN.{length, set, length-set}
use Rattle.num.proofs.FoldLaws.{up_start, up_turn, up_keeps}
use Rattle.geo.specs.declared.Point.{Point}
use Rattle.geo.specs.Points as Points
use Rattle.tile.specs.declared.Node.{Node}
use Rattle.predict.specs.declared.Course.{Course}
use Rattle.predict.specs.declared.Mark.{Mark}
use Rattle.predict.specs.Samples.{Pushed, sample_at, height_at, stopped, push_from, pushed}
use Rattle.predict.specs.declared.outgoing.Leg.{Leg}
use Rattle.predict.specs.declared.Trip.{Trip}
use Rattle.predict.specs.declared.Track.{Track}
use Rattle.predict.specs.Start.{less}
use Rattle.predict.specs.Vertex.{Along, node_at, step_of, reached, passed, advanced_to, advanced, vertex_step, vertices, track_of, course_of}
use Rattle.predict.proofs.Turns.{up_stays}

-- ---- the heights keep their length

either_pushed : (b : Bool) (x y : Pushed) (n : ℕ) → length x.heights ≡ n → length y.heights ≡ n → length (cond b x y).heights ≡ n
either_pushed true x y n e f = e
either_pushed false x y n e f = f

either_along : (b : Bool) (x y : Along) (n : ℕ) → length x.heights ≡ n → length y.heights ≡ n → length (cond b x y).heights ≡ n
either_along true x y n e f = e
either_along false x y n e f = f

module _ (m : Mark) (d : Float) (z : ℤ) where
  from_length : (room len : ℕ) (hs : List ℤ) → length (push_from room m d z len hs).heights ≡ length hs
  unfolding push_from
  from_length zero len hs = refl
  from_length (suc room) len hs =
      let more : List ℤ = set hs len (height_at m (sample_at len) d z) in
      either_pushed (lt d (sample_at len)) (stopped len d z hs) (push_from room m d z (len + 1) more) (length hs) refl
      (from_length room (len + 1) more ∙ length-set hs len (height_at m (sample_at len) d z))

pub pushed-length : (m : Mark) (hs : List ℤ) (d : Float) (z : ℤ) → length (pushed m hs d z).heights ≡ length hs
pushed-length m hs d z = from_length m d z (length hs - m.len) m.len hs

reached-length : (trip : Trip) (t : Track) (step : Float) (z : ℤ) (hs : List ℤ) → length (reached trip t step z hs).heights ≡ length hs
unfolding reached
reached-length trip t step z hs = pushed-length t.mark hs _ _

passed_length : (t : Track) (distance : Float) (point : Point) (z : ℤ) (hs : List ℤ) → length (passed t distance point z hs).heights ≡ length hs
unfolding passed
passed_length t distance point z hs = pushed-length t.mark hs distance z

module _ (trip : Trip) (leg : Leg) (bs : List ℕ) (lon_um : ℕ) where
  to_length : (t : Track) (point : Point) (z : ℤ) (hs : List ℤ) → length (advanced_to trip lon_um t point z hs).heights ≡ length hs
  to_length t point z hs =
      let step = step_of t.here point lon_um in
      let distance = add binary32 t.distance step in
      either_along (le trip.horizon_m distance) (reached trip t step z hs) (passed t distance point z hs) (length hs)
      (reached-length trip t step z hs) (passed_length t distance point z hs)

  pub advanced-length : (t : Track) (i : ℕ) (hs : List ℤ) → length (advanced trip leg bs lon_um t i hs).heights ≡ length hs
  unfolding advanced
  advanced-length t i hs =
      let node = node_at leg bs i in
      to_length t (Points.point_of leg.header leg.key node) (less (Points.z_dm node) trip.z_dm) hs

  -- ---- one after the other

  module _ (from : ℕ) (a : Along) where
    pub vertices_start : vertices trip leg bs lon_um from a 0 ≡ a
    unfolding vertices
    vertices_start = up_start (vertex_step trip leg bs lon_um from) a

    pub vertices_on : (n : ℕ) → (vertices trip leg bs lon_um from a n).track.over ≡ false
        → vertices trip leg bs lon_um from a (n + 1)
        ≡ advanced trip leg bs lon_um (vertices trip leg bs lon_um from a n).track (from + n) (vertices trip leg bs lon_um from a n).heights
    unfolding vertices
    vertices_on n e = up_turn (vertex_step trip leg bs lon_um from) a n ∙ rw e

    pub vertices_over : (n m : ℕ) → (vertices trip leg bs lon_um from a n).track.over ≡ true → n ≤ m
        → vertices trip leg bs lon_um from a m ≡ vertices trip leg bs lon_um from a n
    unfolding vertices
    vertices_over n m e h = up_stays (vertex_step trip leg bs lon_um from) a n (λ (i : ℕ). rw e) m h

    pub vertices-length : (n : ℕ) → length (vertices trip leg bs lon_um from a n).heights ≡ length a.heights
    unfolding vertices
    vertices-length n =
        up_keeps (vertex_step trip leg bs lon_um from) a (λ (b : Along). length b.heights ≡ length a.heights) n refl
        (λ (i : ℕ) (h : i < n) (b : Along) (e : length b.heights ≡ length a.heights).
        either_along b.track.over b _ _ e (advanced-length b.track (from + i) b.heights ∙ e))

-- ---- as the code has a track: a course, and the three lists of its history beside it

abbrev pub along_of : Track → List ℤ → Along
along_of t hs = record { track = t; heights = hs }

-- a course given back, the heights, latitudes, longitudes and distances left
abbrev pub Left : Along → Course → List ℤ → List ℤ → List ℤ → List Float → Type 0
Left a c hs lats lons ds =
    (c ≡ course_of a.track)
    × ((hs ≡ a.heights)
    × ((lats ≡ a.track.history.lats) × ((lons ≡ a.track.history.lons) × (ds ≡ a.track.history.distances))))

module _ (a : Along) (c : Course) (hs lats lons : List ℤ) (ds : List Float) where
  pub left_whole : Left a c hs lats lons ds → along_of (track_of c lats lons ds) hs ≡ a
  left_whole e = λ i. record {
    track = record {
      here = (e.0 i).here;
      distance = (e.0 i).distance;
      mark = (e.0 i).mark;
      history = record { lats = e.1.1.0 i; lons = e.1.1.1.0 i; distances = e.1.1.1.1 i; len = (e.0 i).len };
      over = (e.0 i).over;
    };
    heights = e.1.0 i;
  }

-- point number i, as the code comes to it
module _ (trip : Trip) (leg : Leg) (bs : List ℕ) (lon_um : ℕ) (t : Course) (lats lons : List ℤ) (ds : List Float) (i : ℕ) (hs : List ℤ)
    {node : Node} {point : Point} {z : ℤ} {step : Float} (nodes : node ≡ node_at leg bs i)
    (points : point ≡ Points.point_of leg.header leg.key node) (heights : z ≡ less (Points.z_dm node) trip.z_dm)
    (steps : step ≡ step_of t.here point lon_um) (c : Course) (ks : List ℤ)
  where
    -- the horizon, up to which the history stays as it is
    pub advanced_reach : le trip.horizon_m (add binary32 t.distance step) ≡ true
        → c ≡ course_of (reached trip (track_of t [] [] []) step z hs).track
        → ks ≡ (reached trip (track_of t [] [] []) step z hs).heights
        → Left (advanced trip leg bs lon_um (track_of t lats lons ds) i hs) c ks lats lons ds
    unfolding advanced reached
    advanced_reach far moves fills = rw (← nodes, ← points, ← heights, ← steps, far) (moves, (fills, (refl, (refl, refl))))

    pub advanced_pass : (lats' lons' : List ℤ) (ds' : List Float) → le trip.horizon_m (add binary32 t.distance step) ≡ false
        → Left (passed (track_of t lats lons ds) (add binary32 t.distance step) point z hs) c ks lats' lons' ds'
        → Left (advanced trip leg bs lon_um (track_of t lats lons ds) i hs) c ks lats' lons' ds'
    unfolding advanced
    advanced_pass lats' lons' ds' short left = rw (← nodes, ← points, ← heights, ← steps, short) left
