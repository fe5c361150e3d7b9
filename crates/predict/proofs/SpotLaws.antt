-- What stands where `spot_of` says is the point of the leg (`node_is`), and metres one by one are those of `metres_of` (`metres-is`).
use Prim.Native.Nat.{ℕ, ◌+◌, ◌-◌, ◌*◌}
use mathlib.Core.Path.{◌≡◌, refl}
use mathlib.Core.Bool.{Bool, true, false, cond}
use mathlib.Core.List.{List}
use lib.Dec.{ltb, eqb}
use Rattle.tile.specs.Layout as Layout
use Rattle.tile.specs.declared.Edge.{Edge}
use Rattle.geo.specs.declared.Point.{Point}
use Rattle.geo.specs.Flat.{metres_of}
use Rattle.predict.specs.declared.outgoing.Leg.{Leg}
use Rattle.predict.specs.Vertex.{node_at}
use Rattle.predict.specs.Spots.{vertices_at, spot_of, east_of, north_of}

module _ (bs : List ℕ) (e : Edge) (index : ℕ) where
  by : (first past : Bool)
      → Layout.place_at bs (cond first (32 + e.from * 8) (cond past (32 + e.to * 8) (vertices_at bs + (e.first_vertex + index - 1) * 6)))
      ≡ cond first (Layout.node_of bs e.from) (cond past (Layout.node_of bs e.to) (Layout.vertex_of bs (e.first_vertex + index - 1)))
  by true past = refl
  by false true = refl
  by false false = refl

pub node_is : (leg : Leg) (bs : List ℕ) (i : ℕ) → Layout.place_at bs (spot_of (vertices_at bs) leg i) ≡ node_at leg bs i
unfolding spot_of node_at Layout.point_of
node_is leg bs i =
    let index : ℕ = cond leg.forward i (leg.edge.vertices + 1 - i) in
    by bs leg.edge index (eqb index 0) (ltb leg.edge.vertices index)

pub east_is : (to from : Point) (lon_um : ℕ) → east_of to.lon from.lon lon_um ≡ (metres_of to from lon_um).east
unfolding east_of metres_of
east_is to from lon_um = refl

pub north_is : (to from : Point) (lon_um : ℕ) → north_of to.lat from.lat ≡ (metres_of to from lon_um).north
unfolding north_of metres_of
north_is to from lon_um = refl
