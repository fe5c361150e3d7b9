-- What the definitions of a road hold to 32 bits is never reached from a start that number 10 accepts, in a grid within the header's rules: the sums are the
-- Rust's plain ones. `part_way_exact`: a point part of the way between two places of the grid. `place_exact`: the start's place, which is such a point.
-- `back_exact`: the point 25 m back, between two points passed, which are places of the grid too (`walk_near`). `less_exact`: a point's height less the
-- rider's. The idea: places lie within 361 degrees, so two are less than 2 ^ 30 apart, which is a float; a part of it is no more.
use Rattle.std.specs.Prelude.{Some}
use Prim.Native.Nat.{ℕ, zero, suc, ◌+◌, ◌-◌, ◌≤◌, ◌<◌}
use mathlib.Core.Path.{◌≡◌, refl, subst, sym}
use mathlib.Core.Bool.{Bool, true, false, ◌&&◌, cond}
use mathlib.Core.List.{List, [], ◌∷◌, ◌++◌}
use mathlib.Core.Logic.{inr}
use native.Mathlib.Omega.{arith}
use lib.Dec.{ltb, leb, eqb}
use lib.IntN.{ℤ, pos, negsuc, ◌+ℤ◌, ◌-ℤ◌}
use lib.Ieee.{Float, binary32, add, sub, div, of_int, lt, eq, le}
use lib.ListN.{length, get_or, set, take, drop, replicate}
use lib.Signed.{le_z}
use Rattle.num.specs.Fold.{up_to}
use Rattle.num.specs.Order.{clamp}
use Rattle.num.proofs.FoldLaws.{up_keeps}
use Rattle.num.proofs.PartLaws.{IsPart}
use Rattle.pack.specs.Sector.{rules}
use Rattle.pack.specs.Grid.{in_grid, corner_of}
use Rattle.pack.specs.Grid as Grid
use Rattle.pack.specs.declared.Header.{Header}
use Rattle.pack.specs.declared.TileKey.{TileKey}
use Rattle.pack.proofs.Laws.{u16_below, and_left, and_right, corner_south, corner_west}
use Rattle.pack.proofs.Signed.{up, dn, le-true, lt_no}
use Rattle.pack.proofs.Signed as Signed
use Rattle.tile.specs.Layout as Layout
use Rattle.tile.specs.declared.Node.{Node}
use Rattle.tile.specs.declared.Edge.{Edge}
use Rattle.geo.specs.Flat.{whole}
use Rattle.geo.specs.Points as Points
use Rattle.geo.specs.Points.{z_dm}
use Rattle.geo.specs.declared.Point.{Point}
use Rattle.geo.proofs.Laws.{held_exact}
use Rattle.geo.proofs.FractionLaws.{clamp_part}
use Rattle.geo.proofs.PartWay.{part_way_of, Above, part_way_bounds, height_least, height_most}
use Rattle.matcher.specs.declared.Matched.{Matched}
use Rattle.cache.specs.Runs.{span}
use Rattle.cache.specs.Direct.{Look, ready, missing, absent, stale}
use Rattle.cache.specs.Reader.{Reader}
use Rattle.predict.specs.declared.History.{History}
use Rattle.predict.specs.declared.Track.{Track}
use Rattle.predict.specs.declared.Trip.{Trip}
use Rattle.predict.specs.declared.outgoing.Leg.{Leg}
use Rattle.predict.specs.Outgoing.{last_of}
use Rattle.predict.specs.Incoming.{first, shifted, kept, push, point_at, distance_at, back_part, back_by}
use Rattle.predict.specs.Vertex.{Along, node_at, step_of, reached, passed, advanced, vertex_step, vertices, to_end}
use Rattle.predict.specs.declared.End.TheVariants as End
use Rattle.predict.specs.declared.Ending.{Ending}
use Rattle.predict.specs.declared.Walk.{Walk}
use Rattle.predict.specs.declared.Way.{Way}
use Rattle.predict.specs.Meets.{meet}
use Rattle.predict.specs.Visits.{visit}
use Rattle.predict.specs.Walk.{with_ending, Onto, stopped, entered, Run, goes_on, leg_of, along, run_of, crossed_run, reached_run, driven, edge_look, edge_step, walk_to}
use Rattle.predict.specs.Start.{held, less, part_way, between, start_ok, place}

-- ---- sums that 32 bits hold

held_idle : (z : ℤ) → up z ≤ dn z + 2147483647 → dn z ≤ up z + 2147483648 → held z ≡ z
held_idle z p q = rw (lt_no z (negsuc 2147483647) (omega arith), lt_no (pos 2147483647) z (omega arith))

-- a coordinate of a place: the grid's 360 degrees, a tile's 65,535 past it, and as much again for a point part of the way
pub record Near (z : ℤ) : Type 0 where
  pub most : up z ≤ dn z + 360131070
  pub least : dn z ≤ up z + 360131070

pub part_way_exact : (a b : ℤ) (t : Float) → Near a → Near b → IsPart t → part_way a b t ≡ part_way_of a b t
unfolding part_way
part_way_exact a b t na nb part =
    let bounds : Above (part_way_of a b t) a 1073741824 × Above a (part_way_of a b t) 1073741824
    = part_way_bounds a b t 1 30 (omega arith) (omega arith)
    (omega (arith, na.most, na.least, nb.most, nb.least)) (omega (arith, na.most, na.least, nb.most, nb.least)) part in
    held_idle (part_way_of a b t) (omega (arith, bounds, na.most)) (omega (arith, bounds, na.least))

-- a point's height less the rider's, of a height that number 10 accepts
pub less_exact : (n : Node) (z : ℤ) → n.z ≤ 65535 → le_z (negsuc 999999) z ≡ true → le_z z (pos 1000000) ≡ true → less (z_dm n) z ≡ z_dm n -ℤ z
less_exact n z fits low high =
    held_idle (z_dm n -ℤ z)
    (omega (arith, Signed.sub (z_dm n) z, height_most n fits, le-true (negsuc 999999) z low, le-true z (pos 1000000) high))
    (omega (arith, Signed.sub (z_dm n) z, height_least n, le-true (negsuc 999999) z low, le-true z (pos 1000000) high))

-- ---- places

pub record NearBy (p : Point) : Type 0 where
  pub lat : Near p.lat
  pub lon : Near p.lon

abbrev plain_between : Point → Point → Float → Point
plain_between a b t = record { lat = part_way_of a.lat b.lat t; lon = part_way_of a.lon b.lon t }

pub between_exact : (a b : Point) (t : Float) → NearBy a → NearBy b → IsPart t → between a b t ≡ plain_between a b t
between_exact a b t na nb part =
    rw (part_way_exact a.lat b.lat t na.lat nb.lat part, part_way_exact a.lon b.lon t na.lon nb.lon part)

-- ---- a tile's points

pub record Fits (n : Node) : Type 0 where
  pub x : n.x ≤ 65535
  pub y : n.y ≤ 65535
  pub z : n.z ≤ 65535

module _ (bs : List ℕ) (bytes : (i : ℕ) → get_or bs i 0 < 256) where
  place_fits : (at : ℕ) → Fits (Layout.place_at bs at)
  unfolding Layout.place_at
  place_fits at = record {
    x = omega (arith, u16_below bs bytes at);
    y = omega (arith, u16_below bs bytes (at + 2));
    z = omega (arith, u16_below bs bytes (at + 4));
  }

  pub point_fits : (e : Edge) (index : ℕ) → Fits (Layout.point_of bs e index)
  unfolding Layout.point_of
  point_fits e index = by (eqb index 0) (ltb e.vertices index)
    where
      by : (first past : Bool)
          → Fits (cond first (Layout.node_of bs e.from) (cond past (Layout.node_of bs e.to) (Layout.vertex_of bs (e.first_vertex + index - 1))))
      by true past = place_fits (Layout.node_start e.from)
      by false true = place_fits (Layout.node_start e.to)
      by false false = place_fits (Layout.vertex_start bs (e.first_vertex + index - 1))

-- a coordinate of a tile's point: its corner's, and at most 65,535 more
record AtCorner (corner z : ℤ) : Type 0 where
  past : up corner + dn z ≤ dn corner + up z
  within : up z + dn corner ≤ dn z + up corner + 65535
  most : up z ≤ dn z + 360065535
  least : dn z ≤ up z + 360000000

at_corner : (corner : ℤ) (n : ℕ) → le_z (negsuc 359999999) corner ≡ true → le_z corner (pos 360000000) ≡ true → n ≤ 65535
    → AtCorner corner (Grid.held (corner +ℤ pos n))
at_corner corner n low high small =
    subst (λ (z : ℤ). AtCorner corner z) (sym (held_exact corner n high small))
    (record {
      past = omega (arith, Signed.add corner (pos n));
      within = omega (arith, Signed.add corner (pos n));
      most = omega (arith, Signed.add corner (pos n), le-true corner (pos 360000000) high);
      least = omega (arith, Signed.add corner (pos n), le-true (negsuc 359999999) corner low);
    })

-- part of the way between two of a tile
part_near : (corner a b : ℤ) (t : Float) → AtCorner corner a → AtCorner corner b → IsPart t → Near (part_way_of a b t)
part_near corner a b t na nb part =
    let bounds : Above (part_way_of a b t) a 65535 × Above a (part_way_of a b t) 65535
    = part_way_bounds a b t 65535 0 (omega arith) (omega arith)
    (omega (arith, na.past, na.within, nb.past, nb.within)) (omega (arith, na.past, na.within, nb.past, nb.within)) part in
    record { most = omega (arith, bounds, na.most); least = omega (arith, bounds, na.least) }

corner_near : (corner z : ℤ) → AtCorner corner z → Near z
corner_near corner z at = record { most = omega (arith, at.most); least = omega (arith, at.least) }

module _ (h : Header) (key : TileKey) (ok : rules h ≡ true) (is_in_grid : in_grid h key ≡ true) where
  lat_at : (n : Node) → n.y ≤ 65535 → AtCorner (corner_of h key).south (Points.point_of h key n).lat
  unfolding Points.point_of
  lat_at n small = at_corner (corner_of h key).south n.y (corner_south h key ok is_in_grid).0 (corner_south h key ok is_in_grid).1 small

  lon_at : (n : Node) → n.x ≤ 65535 → AtCorner (corner_of h key).west (Points.point_of h key n).lon
  unfolding Points.point_of
  lon_at n small = at_corner (corner_of h key).west n.x (corner_west h key ok is_in_grid).0 (corner_west h key ok is_in_grid).1 small

  pub node_near : (n : Node) → n.x ≤ 65535 → n.y ≤ 65535 → NearBy (Points.point_of h key n)
  node_near n x y = record {
    lat = corner_near (corner_of h key).south (Points.point_of h key n).lat (lat_at n y);
    lon = corner_near (corner_of h key).west (Points.point_of h key n).lon (lon_at n x);
  }

  between_near : (p q : Node) (t : Float) → p.x ≤ 65535 → p.y ≤ 65535 → q.x ≤ 65535 → q.y ≤ 65535 → IsPart t
      → NearBy (plain_between (Points.point_of h key p) (Points.point_of h key q) t)
  between_near p q t px py qx qy part = record {
    lat = part_near (corner_of h key).south (Points.point_of h key p).lat (Points.point_of h key q).lat t (lat_at p py) (lat_at q qy) part;
    lon = part_near (corner_of h key).west (Points.point_of h key p).lon (Points.point_of h key q).lon t (lon_at p px) (lon_at q qx) part;
  }

-- ---- the start

-- what number 10 accepts
record Accepted (m : Matched) : Type 0 where
  fraction : IsPart m.fraction
  low : le_z (negsuc 999999) m.z_dm ≡ true
  high : le_z m.z_dm (pos 1000000) ≡ true

accepted : (bs : List ℕ) (m : Matched) → start_ok bs m ≡ true → Accepted m
unfolding start_ok
accepted bs m e =
    let edge : Bool = ltb m.edge (Layout.edges_of bs) in
    let segment : Bool = leb m.segment (Layout.edge_of bs m.edge).vertices in
    let from : Bool = le (whole 0) m.fraction in
    let to : Bool = le m.fraction (whole 1) in
    let low : Bool = le_z (negsuc 999999) m.z_dm in
    let high : Bool = le_z m.z_dm (pos 1000000) in
    let rest : (from && (to && (low && high))) ≡ true
    = and_right segment (from && (to && (low && high))) (and_right edge (segment && (from && (to && (low && high)))) e) in
    let last : (to && (low && high)) ≡ true = and_right from (to && (low && high)) rest in
    let heights : (low && high) ≡ true = and_right to (low && high) last in
    record {
      fraction = inr (and_left from (to && (low && high)) rest, and_left to (low && high) last);
      low = and_left low high heights;
      high = and_right low high heights;
    }

module _ (h : Header) (bs : List ℕ) (bytes : (i : ℕ) → get_or bs i 0 < 256) (m : Matched)
    (ok : rules h ≡ true) (is_in_grid : in_grid h m.tile.key ≡ true) (start : start_ok bs m ≡ true) where
  abbrev start_node : Edge → Node
  start_node e = Layout.point_of bs e m.segment

  abbrev end_node : Edge → Node
  end_node e = Layout.point_of bs e (m.segment + 1)

  pub place_exact : (e : Edge)
      → place h bs e m ≡ plain_between (Points.point_of h m.tile.key (start_node e)) (Points.point_of h m.tile.key (end_node e)) m.fraction
  unfolding place
  place_exact e =
      let s = point_fits bs bytes e m.segment in
      let t = point_fits bs bytes e (m.segment + 1) in
      between_exact (Points.point_of h m.tile.key (start_node e)) (Points.point_of h m.tile.key (end_node e)) m.fraction
      (node_near h m.tile.key ok is_in_grid (start_node e) s.x s.y)
      (node_near h m.tile.key ok is_in_grid (end_node e) t.x t.y)
      (accepted bs m start).fraction

  -- so it is itself a place of the grid
  pub place_near : (e : Edge) → NearBy (place h bs e m)
  place_near e =
      let s = point_fits bs bytes e m.segment in
      let t = point_fits bs bytes e (m.segment + 1) in
      subst NearBy (sym (place_exact e))
      (between_near h m.tile.key ok is_in_grid (start_node e) (end_node e) m.fraction s.x s.y t.x t.y (accepted bs m start).fraction)

  -- the heights of its walk, ahead and behind: of any node of any tile, less the start's
  pub start_less_exact : (n : Node) → n.z ≤ 65535 → less (z_dm n) m.z_dm ≡ z_dm n -ℤ m.z_dm
  start_less_exact n fits = less_exact n m.z_dm fits (accepted bs m start).low (accepted bs m start).high

-- ---- the points passed

-- every element of a list is near
abbrev EachNear : List ℤ → Type 0
EachNear [] = Unit
EachNear (z ∷ zs) = Near z × EachNear zs

zero_near : Near (pos 0)
zero_near = record { most = omega arith; least = omega arith }

at_near : (l : List ℤ) (i : ℕ) → EachNear l → Near (get_or l i (pos 0))
at_near [] i all = zero_near
at_near (z ∷ zs) zero all = all.0
at_near (z ∷ zs) (suc i) all = at_near zs i all.1

same_near : (n : ℕ) (z : ℤ) → Near z → EachNear (replicate n z)
same_near zero z near = tt
same_near (suc n) z near = (near, same_near n z near)

set_near : (l : List ℤ) (i : ℕ) (z : ℤ) → EachNear l → Near z → EachNear (set l i z)
set_near [] i z all near = tt
set_near (y ∷ ys) zero z all near = (near, all.1)
set_near (y ∷ ys) (suc i) z all near = (all.0, set_near ys i z all.1 near)

take_near : (n : ℕ) (l : List ℤ) → EachNear l → EachNear (take n l)
take_near zero l all = tt
take_near (suc n) [] all = tt
take_near (suc n) (z ∷ zs) all = (all.0, take_near n zs all.1)

drop_near : (n : ℕ) (l : List ℤ) → EachNear l → EachNear (drop n l)
drop_near zero l all = all
drop_near (suc n) [] all = tt
drop_near (suc n) (z ∷ zs) all = drop_near n zs all.1

append_near : (a b : List ℤ) → EachNear a → EachNear b → EachNear (a ++ b)
append_near [] b p q = q
append_near (z ∷ zs) b p q = (p.0, append_near zs b p.1 q)

kept_near : (l : List ℤ) (n : ℕ) (z : ℤ) → EachNear l → Near z → EachNear (kept l n z)
unfolding kept shifted
kept_near l n z all near = by (ltb n 16)
  where
    by : (t : Bool) → EachNear (cond t (set l n z) (set (drop 1 (take 16 l) ++ drop 15 l) 15 z))
    by true = set_near l n z all near
    by false =
        set_near (drop 1 (take 16 l) ++ drop 15 l) 15 z
        (append_near (drop 1 (take 16 l)) (drop 15 l) (drop_near 1 (take 16 l) (take_near 16 l all)) (drop_near 15 l all))
        near

-- a history of places of the grid
abbrev pub AllNear : History → Type 0
AllNear h = EachNear h.lats × EachNear h.lons

pub first_near : (p : Point) → NearBy p → AllNear (first p)
first_near p near = (same_near 16 p.lat near.lat, same_near 16 p.lon near.lon)

pub push_near : (h : History) (p : Point) (distance : Float) → AllNear h → NearBy p → AllNear (push h p distance)
unfolding push
push_near h p distance all near =
    (kept_near h.lats h.len p.lat all.0 near.lat, kept_near h.lons h.len p.lon all.1 near.lon)

passed_near : (h : History) (i : ℕ) → AllNear h → NearBy (point_at h i)
passed_near h i all = record { lat = at_near h.lats i all.0; lon = at_near h.lons i all.1 }

zero_part : IsPart (whole 0)
unfolding of_int le lt eq
zero_part = inr (refl, refl)

back_part_lem : (from to distance : Float) → IsPart (back_part from to distance)
back_part_lem from to distance = by (lt from to)
  where
    part : Float
    part = div binary32 (sub binary32 (sub binary32 distance (whole 25)) from) (sub binary32 to from)

    by : (t : Bool) → IsPart (cond t (clamp part (whole 0) (whole 1)) (whole 0))
    by true = clamp_part part
    by false = zero_part

-- the point 25 m back along the road
pub back_exact : (h : History) (i : ℕ) (distance : Float) → AllNear h
    → back_by (Some i) h distance
    ≡ plain_between (point_at h i) (point_at h (i + 1)) (back_part (distance_at h i) (distance_at h (i + 1)) distance)
back_exact h i distance all =
    between_exact (point_at h i) (point_at h (i + 1)) (back_part (distance_at h i) (distance_at h (i + 1)) distance)
    (passed_near h i all) (passed_near h (i + 1) all) (back_part_lem (distance_at h i) (distance_at h (i + 1)) distance)

-- ---- along an edge of a tile of the grid

module _ (trip : Trip) (leg : Leg) (bs : List ℕ) (bytes : (i : ℕ) → get_or bs i 0 < 256)
    (ok : rules leg.header ≡ true) (is_in_grid : in_grid leg.header leg.key ≡ true) where
  node_fits : (i : ℕ) → NearBy (Points.point_of leg.header leg.key (node_at leg bs i))
  unfolding node_at
  node_fits i =
      let index : ℕ = cond leg.forward i (last_of leg - i) in
      let fits = point_fits bs bytes leg.edge index in
      node_near leg.header leg.key ok is_in_grid (Layout.point_of bs leg.edge index) fits.x fits.y

  advanced_near : (lon_um : ℕ) (t : Track) (i : ℕ) (hs : List ℤ) → AllNear t.history → AllNear (advanced trip leg bs lon_um t i hs).track.history
  unfolding advanced reached passed
  advanced_near lon_um t i hs all = by (le trip.horizon_m distance)
    where
      node : Node
      node = node_at leg bs i

      point : Point
      point = Points.point_of leg.header leg.key node

      z : ℤ
      z = less (z_dm node) trip.z_dm

      step : Float
      step = step_of t.here point lon_um

      distance : Float
      distance = add binary32 t.distance step

      by : (b : Bool) → AllNear (cond b (reached trip t step z hs) (passed t distance point z hs)).track.history
      by true = all
      by false = push_near t.history point distance all (node_fits i)

  vertices_near : (lon_um from : ℕ) (a : Along) (n : ℕ) → AllNear a.track.history → AllNear (vertices trip leg bs lon_um from a n).track.history
  unfolding vertices
  vertices_near lon_um from a n all =
      up_keeps (vertex_step trip leg bs lon_um from) a (λ (x : Along). AllNear x.track.history) n all
      (λ (i : ℕ) (below : i < n) (x : Along) (near : AllNear x.track.history). by x.track.over i x near)
    where
      by : (over : Bool) (i : ℕ) (x : Along) → AllNear x.track.history
          → AllNear (cond over x (advanced trip leg bs lon_um x.track (from + i) x.heights)).track.history
      by true i x near = near
      by false i x near = advanced_near lon_um x.track (from + i) x.heights near

  pub to_end_near : (lon_um from : ℕ) (a : Along) → AllNear a.track.history → AllNear (to_end trip leg bs lon_um from a).track.history
  to_end_near lon_um from a all = vertices_near lon_um from a (last_of leg + 1 - from) all

-- ---- along the whole road: at a junction no point is passed

entered_way : (v m : List ℕ) (w : Walk) (budget pages : ℕ) → (entered v m w budget pages).walk.way ≡ w.way
unfolding with_ending
entered_way v m w budget pages = by (meet m budget w.way.tile pages).fits (meet m budget w.way.tile pages).met
  where
    by : (t : Bool) (met : List ℕ)
        → (cond t (record { walk = w; visited = visit v w.way.tile w.way.edge; met = met }) (stopped v met w (Ending.Stops End.Memory))).walk.way
        ≡ w.way
    by true met = refl
    by false met = refl

-- the reader's tiles are bytes
abbrev pub Octets : {S : Type 0} → Reader S → Type 0
Octets {S} rd = (s : S) (key : TileKey) (bs : List ℕ) → rd.at s key ≡ ready bs → (i : ℕ) → get_or bs i 0 < 256

module _ {S : Type 0} (rd : Reader S) (octets : Octets rd) (trip : Trip) (budget : ℕ) (ok : rules trip.header ≡ true) where
  abbrev RunNear : Run S → Type 0
  RunNear r = AllNear r.track.history

  driven_near : (o : Onto) (k : Track) (s : S) (bs : List ℕ) (hs : List ℤ) → ((i : ℕ) → get_or bs i 0 < 256)
      → in_grid trip.header o.walk.way.tile ≡ true → AllNear k.history → RunNear (driven rd trip budget o k s bs hs)
  unfolding along
  driven_near o k s bs hs bytes is_in_grid near = by a.track.over
    where
      a : Along
      a = along trip o.walk k bs hs

      after : AllNear a.track.history
      after =
          to_end_near trip (leg_of trip.header o.walk.way bs) bs bytes ok is_in_grid (Layout.head_of bs).lon_um o.walk.from
          (record { track = k; heights = hs }) near

      by : (t : Bool)
          → RunNear (cond t (reached_run o a.track s a.heights) (crossed_run rd trip budget o a.track s bs a.heights))
      by true = after
      by false = after

  look_near : (l : Look) (r : Run S) → rd.at r.carried r.walk.way.tile ≡ l → in_grid trip.header r.walk.way.tile ≡ true
      → RunNear r → RunNear (edge_look rd trip budget l r)
  look_near missing r e is_in_grid near = near
  look_near absent r e is_in_grid near = near
  look_near stale r e is_in_grid near = near
  look_near (ready bs) r e is_in_grid near = by (goes_on o.walk.ending)
    where
      o : Onto
      o = entered r.visited r.met r.walk budget (span (length bs))

      s : S
      s = rd.found r.carried r.walk.way.tile

      by : (t : Bool) → RunNear (cond t (driven rd trip budget o r.track s bs r.heights) (run_of o r.track s r.heights))
      by true =
          driven_near o r.track s bs r.heights (octets r.carried r.walk.way.tile bs e)
          (subst (λ (x : Way). in_grid trip.header x.tile ≡ true)
          (sym (entered_way r.visited r.met r.walk budget (span (length bs)))) is_in_grid) near
      by false = near

  step_near : (r : Run S) → in_grid trip.header r.walk.way.tile ≡ true → RunNear r → RunNear (edge_step rd trip budget r)
  step_near r is_in_grid near = by (goes_on r.walk.ending)
    where
      by : (t : Bool) → RunNear (cond t (edge_look rd trip budget (rd.at r.carried r.walk.way.tile) r) r)
      by true = look_near (rd.at r.carried r.walk.way.tile) r refl is_in_grid near
      by false = near

  -- after each edge of a road whose edges lie in tiles of the grid, the points passed are places of the grid, so that `back_exact` holds of them
  pub walk_near : (r : Run S) → ((n : ℕ) → in_grid trip.header (walk_to rd trip budget r n).walk.way.tile ≡ true) → RunNear r
      → (n : ℕ) → RunNear (walk_to rd trip budget r n)
  unfolding walk_to up_to
  walk_near r is_in_grid near zero = near
  walk_near r is_in_grid near (suc n) = step_near (walk_to rd trip budget r n) (is_in_grid n) (walk_near r is_in_grid near n)
