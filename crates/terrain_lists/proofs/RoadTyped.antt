-- A road's heights and figures stay within their types, over any reader (`forecast_typed`): every height that is written is held to 16 bits or cut to them, and every distance is 0, the horizon,
-- the metres ridden or a result of a float operation. The idea: a walk leaves its track alone but along an edge.
use Rattle.refusal.specs.declared.Refusal.{Refusal}
use Rattle.std.specs.Prelude.{Result, Ok, Err}
use Rattle.std.proofs.Common.{Option, Some, None}
use Prim.Native.Nat.{ℕ, zero, suc, ◌+◌, ◌-◌, ◌<◌}
use mathlib.Core.Path.{◌≡◌, ◌∙◌}
use mathlib.Core.Bool.{Bool, ◌&&◌, not}
use mathlib.Core.List.{List}
use native.Mathlib.Omega.{arith}
use lib.Dec.{ltb}
use lib.IntN.{ℤ, pos}
use lib.Ieee.{Float, binary32, add, sub, lt, le}
use lib.Ieee.Casts.{to_unsigned-lt, to_signed_in}
use lib.Ieee.Fits.{add-fits, mul-fits}
use lib.ListN.{length, set, length-set}
use Rattle.num.specs.Order.{min}
use Rattle.num.proofs.FoldLaws.{up_keeps}
use Rattle.pack.specs.declared.Header.{Header}
use Rattle.cache.specs.Direct.{Look, ready, missing, absent, stale}
use Rattle.cache.specs.Reader.{Reader}
use Rattle.cache.specs.Runs.{span}
use Rattle.tile.specs.Layout as Layout
use Rattle.tile.specs.declared.Edge.{Edge}
use Rattle.geo.specs.Flat.{whole}
use Rattle.geo.specs.declared.Point.{Point}
use Rattle.matcher.specs.Score.{same_id}
use Rattle.matcher.specs.declared.Matched.{Matched}
use Rattle.predict.specs.Meets.{budget}
use Rattle.predict.specs.Outgoing.{last_of}
use Rattle.predict.specs.Predict as Start
use Rattle.predict.specs.Predict.{track_from, walk_from, prediction, outcome_by, Forecast, forecast_of, trip_of, road_over, start_look, directed_over, forecast_over}
use Rattle.predict.specs.Ridden.{Backs, Written, back_step, back_next, backs_to, backs, last_sample, no_mark, ridden}
use Rattle.predict.specs.Samples.{Pushed, sample_at, height_at, push_from, pushed}
use Rattle.predict.specs.Start.{first_of, place, start_ok}
use Rattle.predict.specs.Vertex as Vertex
use Rattle.predict.specs.Vertex.{Along, step_of, passed, advanced, vertex_step, vertices, to_end}
use Rattle.predict.specs.Walk.{Onto, entered, Run, begun, goes_on, leg_of, along, driven, edge_look, edge_step, walk_to, walk_over}
use Rattle.predict.specs.declared.Ending.{Ending}
use Rattle.predict.specs.declared.Mark.{Mark}
use Rattle.predict.specs.declared.Outcome.{Outcome}
use Rattle.predict.specs.declared.Prediction.{Prediction}
use Rattle.predict.specs.declared.Track.{Track}
use Rattle.predict.specs.declared.Trip.{Trip}
use Rattle.predict.specs.declared.Walk.{Walk}
use Rattle.predict.specs.declared.outgoing.Leg.{Leg}
use Rattle.predict.specs.declared.ridden.Back.{Back}
use Rattle.predict.specs.declared.ridden.Behind.{Behind}
use Rattle.words.specs.Typed.{Byte, Height, Single}
use Rattle.terrain_lists.proofs.Everywhere.{All, all_set}
use Rattle.terrain_lists.proofs.Numbers.{single_whole, single_min, height_low}
use Rattle.terrain_lists.proofs.Either.{either}

-- ---- the samples

-- n heights of 16 bits
pub record Heights (n : ℕ) (hs : List ℤ) : Type 0 where
  pub long : length hs ≡ n
  pub all : All Height (pos 0) hs

module _ (n : ℕ) where
  set_typed : (hs : List ℤ) (at : ℕ) (z : ℤ) → Heights n hs → Height z → Heights n (set hs at z)
  set_typed hs at z t h = record { long = length-set hs at z ∙ t.long; all = all_set Height (pos 0) hs at z t.all h }

  height_typed : (m : Mark) (at d : Float) (z : ℤ) → Height (height_at m at d z)
  unfolding height_at
  height_typed m at d z = to_signed_in 15 _

  push_typed : (room : ℕ) (m : Mark) (d : Float) (z : ℤ) (len : ℕ) (hs : List ℤ) → Heights n hs → Heights n (push_from room m d z len hs).heights
  unfolding push_from
  push_typed zero m d z len hs t = t
  push_typed (suc room) m d z len hs t =
      either (λ (p : Pushed). Heights n p.heights) (lt d (sample_at len)) _ _ t
      (push_typed room m d z (len + 1) _ (set_typed hs len _ t (height_typed m (sample_at len) d z)))

  pushed_typed : (m : Mark) (hs : List ℤ) (d : Float) (z : ℤ) → Heights n hs → Heights n (pushed m hs d z).heights
  pushed_typed m hs d z t = push_typed (length hs - m.len) m d z m.len hs t

  -- ---- along an edge

  record AlongTyped (a : Along) : Type 0 where
    heights : Heights n a.heights
    distance : Single a.track.distance

  module _ (trip : Trip) (horizon : Single trip.horizon_m) where
    advanced_typed : (leg : Leg) (bs : List ℕ) (lon_um : ℕ) (t : Track) (i : ℕ) (hs : List ℤ) → Heights n hs → AlongTyped (advanced trip leg bs lon_um t i hs)
    unfolding advanced Vertex.reached passed
    advanced_typed leg bs lon_um t i hs h =
        either AlongTyped (le trip.horizon_m (add binary32 t.distance (step_of t.here _ lon_um))) _ _
        (record { heights = pushed_typed t.mark hs _ _ h; distance = horizon })
        (record { heights = pushed_typed t.mark hs _ _ h; distance = add-fits binary32 t.distance _ })

    to_end_typed : (leg : Leg) (bs : List ℕ) (lon_um from : ℕ) (a : Along) → AlongTyped a → AlongTyped (to_end trip leg bs lon_um from a)
    unfolding vertices
    to_end_typed leg bs lon_um from a t =
        up_keeps (vertex_step trip leg bs lon_um from) a AlongTyped (last_of leg + 1 - from) t
        (λ (i : ℕ) (below : i < last_of leg + 1 - from) (b : Along) (g : AlongTyped b).
        either AlongTyped b.track.over b _ g (advanced_typed leg bs lon_um b.track (from + i) b.heights g.heights))

  -- ---- behind the rider

  record BackTyped (b : Backs) : Type 0 where
    heights : Heights n b.heights
    distance : Single b.back.distance

  module _ (trip : Trip) (leg : Leg) (bs : List ℕ) (lon_um : ℕ) (reach : Float) (single : Single reach) where
    back_typed : (b : Back) (i : ℕ) (hs : List ℤ) → Heights n hs → BackTyped (back_step trip leg bs lon_um reach b i hs)
    unfolding back_step
    back_typed b i hs h =
        either BackTyped (le reach (add binary32 b.distance (step_of b.here _ lon_um))) _ _
        (record { heights = pushed_typed b.mark hs _ _ h; distance = single })
        (record { heights = pushed_typed b.mark hs _ _ h; distance = add-fits binary32 b.distance _ })

    backs_typed : (from : ℕ) (b : Back) (hs : List ℤ) → Single b.distance → Heights n hs → BackTyped (backs trip leg bs lon_um reach from b hs)
    unfolding backs backs_to
    backs_typed from b hs d h =
        up_keeps (back_next trip leg bs lon_um reach from) (record { back = b; heights = hs }) BackTyped (last_of leg + 1 - from)
        (record { heights = h; distance = d })
        (λ (i : ℕ) (below : i < last_of leg + 1 - from) (c : Backs) (g : BackTyped c).
        either BackTyped c.back.over c _ g (back_typed c.back (from + i) c.heights g.heights))

  pub record WrittenTyped (w : Written) : Type 0 where
    pub heights : Heights n w.heights
    pub metres : Single w.behind.m

  last_typed : (b : Back) (hs : List ℤ) → Single b.distance → Heights n hs → WrittenTyped (last_sample b hs)
  unfolding last_sample
  last_typed b hs d h =
      either WrittenTyped (le (whole 1) (sub binary32 b.distance (sample_at (b.mark.len - 1))) && ltb b.mark.len (length hs)) _ _
      (record { heights = set_typed hs b.mark.len _ h (height_low b.mark.z); metres = d })
      (record { heights = h; metres = mul-fits binary32 _ _ })

  ridden_typed : (trip : Trip) (leg : Leg) (bs : List ℕ) (lon_um : ℕ) (m : Matched) (here : Point) (hs : List ℤ) → Single m.ridden_m → Heights n hs
      → WrittenTyped (ridden trip leg bs lon_um m here hs)
  unfolding ridden
  ridden_typed trip leg bs lon_um m here hs r h =
      let reach : Float = min m.ridden_m (whole 200) in
      let b : BackTyped _ = backs_typed trip leg bs lon_um reach (single_min m.ridden_m (whole 200) r (single_whole 200)) (first_of leg m.segment)
      (record { here = here; distance = whole 0; mark = (pushed no_mark hs (whole 0) (pos 0)).mark; over = not (lt (whole 0) reach) })
      (pushed no_mark hs (whole 0) (pos 0)).heights (single_whole 0) (pushed_typed no_mark hs (whole 0) (pos 0) h) in
      last_typed _ _ b.distance b.heights

-- ---- the walk

module _ {S : Type 0} (rd : Reader S) (trip : Trip) (horizon : Single trip.horizon_m) (room n : ℕ) where
  record RunTyped (r : Run S) : Type 0 where
    heights : Heights n r.heights
    distance : Single r.track.distance

  driven_typed : (o : Onto) (k : Track) (s : S) (bs : List ℕ) (hs : List ℤ) → Heights n hs → Single k.distance
      → RunTyped (driven rd trip room o k s bs hs)
  unfolding along
  driven_typed o k s bs hs h d =
      let w : Walk = o.walk in
      let a : Along = along trip w k bs hs in
      let t : AlongTyped n a
      = to_end_typed n trip horizon (leg_of trip.header w.way bs) bs (Layout.head_of bs).lon_um w.from (record { track = k; heights = hs })
      (record { heights = h; distance = d }) in
      either RunTyped a.track.over _ _ (record { heights = t.heights; distance = t.distance }) (record { heights = t.heights; distance = t.distance })

  look_typed : (l : Look) (r : Run S) → RunTyped r → RunTyped (edge_look rd trip room l r)
  look_typed (ready bs) r t =
      let o : Onto = entered r.visited r.met r.walk room (span (length bs)) in
      either RunTyped (goes_on o.walk.ending) _ _ (driven_typed o r.track _ bs r.heights t.heights t.distance)
      (record { heights = t.heights; distance = t.distance })
  look_typed missing r t = record { heights = t.heights; distance = t.distance }
  look_typed absent r t = record { heights = t.heights; distance = t.distance }
  look_typed stale r t = record { heights = t.heights; distance = t.distance }

  walk_typed : (r : Run S) → RunTyped r → (edges : ℕ) → RunTyped (walk_to rd trip room r edges)
  unfolding walk_to
  walk_typed r t edges =
      up_keeps (λ (x : Run S) (i : ℕ). edge_step rd trip room x) r RunTyped edges t
      (λ (i : ℕ) (below : i < edges) (x : Run S) (was : RunTyped x).
      either RunTyped (goes_on x.walk.ending) _ x (look_typed (rd.at x.carried x.walk.way.tile) x was) was)

-- ---- the road

-- the figures of a road
pub record FiguresTyped (p : Prediction) : Type 0 where
  pub behind : Single p.behind_m
  pub end : Single p.end_m
  pub confidence : Byte p.confidence

abbrev pub OutcomeTyped : Result Outcome Refusal → Type 0
OutcomeTyped (Ok (Outcome.Road p)) = FiguresTyped p
OutcomeTyped (Ok (Outcome.Need key)) = Unit
OutcomeTyped (Ok Outcome.Rematch) = Unit
OutcomeTyped (Err number) = Unit

outcome_typed : (ending : Ending) (w : Walk) (k : Track) (b : Behind) → Single k.distance → Single b.m → OutcomeTyped (outcome_by ending w k b)
unfolding prediction
outcome_typed Ending.Going w k b d m = record { behind = m; end = d; confidence = to_unsigned-lt 8 _ }
outcome_typed (Ending.Stops end) w k b d m = record { behind = m; end = d; confidence = to_unsigned-lt 8 _ }
outcome_typed (Ending.Need key) w k b d m = tt
outcome_typed Ending.Stale w k b d m = tt

pub record ForecastTyped {S : Type 0} (a b : ℕ) (f : Forecast S) : Type 0 where
  pub answer : OutcomeTyped f.answer
  pub samples : Heights a f.samples
  pub behind : Heights b f.behind

module _ {S : Type 0} (rd : Reader S) (n a b : ℕ) (samples behind : List ℤ) (ahead : Heights a samples) (back : Heights b behind) (m : Matched)
    (gone : Single m.ridden_m) where
  ends_typed : (trip : Trip) (horizon : Single trip.horizon_m) (r : Run S) (w : Written) → RunTyped rd trip horizon (budget n) a r → WrittenTyped b w
      → ForecastTyped a b (forecast_of r w.behind w.heights)
  ends_typed trip horizon r w t u =
      record { answer = outcome_typed r.walk.ending r.walk r.track w.behind t.distance u.metres; samples = t.heights; behind = u.heights }

  road_typed : (trip : Trip) → Single trip.horizon_m → (forward : Bool) (s : S) (bs : List ℕ) → ForecastTyped a b (road_over rd n trip m forward s bs samples behind)
  unfolding road_over track_from
  road_typed trip horizon forward s bs =
      let e : Edge = Layout.edge_of bs m.edge in
      let here : Point = place trip.header bs e m in
      let back_leg : Leg = Start.leg_of trip.header m e (not forward) in
      let leg : Leg = Start.leg_of trip.header m e forward in
      let p : Pushed = pushed no_mark samples (whole 0) (pos 0) in
      ends_typed trip horizon (walk_over rd trip (budget n) (walk_from m leg) (track_from here p.mark) s p.heights) (ridden trip back_leg bs (Layout.head_of bs).lon_um m here behind)
      (walk_typed rd trip horizon (budget n) a (begun (walk_from m leg) (track_from here p.mark) s p.heights)
      (record { heights = pushed_typed a no_mark samples (whole 0) (pos 0) ahead; distance = single_whole 0 }) 2000)
      (ridden_typed b trip back_leg bs (Layout.head_of bs).lon_um m here behind gone back)

  untouched : (x : Result Outcome Refusal) (s : S) → OutcomeTyped x → ForecastTyped {S = S} a b (record { answer = x; samples = samples; behind = behind; carried = s })
  untouched x s t = record { answer = t; samples = ahead; behind = back }

  start_typed : (l : Look) (h : Header) (forward : Bool) (horizon : Float) → Single horizon → (s : S)
      → ForecastTyped a b (start_look rd n l h m forward horizon s samples behind)
  start_typed (ready bs) h forward horizon single s =
      either (ForecastTyped a b) (same_id (Layout.id_of bs) m.tile) _ _
      (either (ForecastTyped a b) (start_ok bs m) _ _ (road_typed (trip_of h m horizon) single forward _ bs) (untouched (Err Refusal.BadStart) _ tt))
      (untouched (Ok Outcome.Rematch) _ tt)
  start_typed missing h forward horizon single s = untouched (Ok Outcome.Rematch) s tt
  start_typed absent h forward horizon single s = untouched (Ok (Outcome.Need m.tile.key)) s tt
  start_typed stale h forward horizon single s = untouched (Err Refusal.BadState) s tt

  directed_typed : (forward : Option Bool) (h : Header) (horizon : Float) → Single horizon → (s : S)
      → ForecastTyped a b (directed_over rd n forward h m horizon s samples behind)
  directed_typed None h horizon single s = untouched _ s (record { behind = single_whole 0; end = single_whole 0; confidence = omega arith })
  directed_typed (Some forward) h horizon single s = start_typed (rd.at s m.tile.key) h forward horizon single s

  pub forecast_typed : (h : Header) (horizon : Float) → Single horizon → (s : S) → ForecastTyped a b (forecast_over rd n h m horizon s samples behind)
  unfolding forecast_over
  forecast_typed h horizon single s = directed_typed m.forward h horizon single s
