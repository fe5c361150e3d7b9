-- How far places reach: the ends of a transect and the points of a tile in its grid are at or above -360,000,000 and, counted from there, below 2^30;
-- a product of two such numbers is below 2^60.
use Prim.Native.Nat.{ℕ, ◌+◌, ◌-◌, ◌*◌, ◌<◌, ◌≤◌, ◌^◌}
use mathlib.Core.Path.{◌≡◌, refl}
use mathlib.Core.Bool.{Bool, true, false, cond}
use mathlib.Core.List.{List}
use native.Mathlib.Nat.{mul-le-mul}
use native.Mathlib.Omega.{arith}
use lib.Dec.{ltb, eqb}
use lib.IntN.{ℤ, pos, negsuc, ◌+ℤ◌}
use lib.ListN.{get_or}
use lib.Signed.{le_z}
use Rattle.pack.specs.Grid.{natural, is_degrees, is_point, corner_of, held}
use Rattle.pack.specs.declared.Header.{Header}
use Rattle.pack.specs.declared.TileKey.{TileKey}
use Rattle.pack.proofs.Signed.{up, dn, add, le-true}
use Rattle.pack.proofs.Laws.{and_left, and_right, corner_south, corner_west, u16_below}
use Rattle.tile.specs.Layout as Layout
use Rattle.tile.specs.Layout.{place_at}
use Rattle.tile.specs.declared.Node.{Node}
use Rattle.tile.specs.declared.Edge.{Edge}
use Rattle.geo.specs.Points.{point_of}
use Rattle.geo.specs.declared.Point.{Point}
use Rattle.geo.proofs.Laws.{held_exact}
use Rattle.crossing.specs.Sides.{raised, place_of, Small, Passed}

pub product : (p q : ℕ) → p < 2 ^ 30 → q < 2 ^ 30 → p * q < 2 ^ 60
product p q h k =
    let h' : p ≤ 1073741823 = omega arith in
    let k' : q ≤ 1073741823 = omega arith in
    omega (arith, mul-le-mul h' k')

-- ---- one coordinate

natural_is : (z : ℤ) → dn z ≡ 0 → natural z ≡ up z
natural_is (pos n) h = refl
natural_is (negsuc n) h = absurd (omega arith)

not_below : (w : ℤ) (p q : ℕ) → up w + p ≡ dn w + q → p ≤ q → dn w ≡ 0
not_below (pos n) p q h k = refl
not_below (negsuc n) p q h k = absurd (omega arith)

pub raised_is : (z : ℤ) → dn z ≤ 360000000 → raised z + dn z ≡ up z + 360000000
unfolding raised
raised_is z h =
    let sum = add z (pos 360000000) in
    let whole = not_below (z +ℤ pos 360000000) (dn z + 0) (up z + 360000000) sum (omega arith) in
    omega (arith, natural_is (z +ℤ pos 360000000) whole)

above : (w : ℤ) → dn w ≤ up w + 360000000 → dn w ≤ 360000000
above (pos n) h = omega arith
above (negsuc n) h = omega arith

degrees : (z : ℤ) → is_degrees z ≡ true → (dn z ≤ 360000000) × (raised z < 2 ^ 30)
degrees z e =
    let low = le-true (negsuc 359999999) z (and_left (le_z (negsuc 359999999) z) (le_z z (pos 360000000)) e) in
    let high = le-true z (pos 360000000) (and_right (le_z (negsuc 359999999) z) (le_z z (pos 360000000)) e) in
    let near = above z (omega arith) in
    (near, omega (arith, raised_is z near))

inside : (z : ℤ) (n : ℕ) → le_z (negsuc 359999999) z ≡ true → le_z z (pos 360000000) ≡ true → n < 65536 → (dn (held (z +ℤ pos n)) ≤ 360000000) × (raised (held (z +ℤ pos n)) < 2 ^ 30)
inside z n low high small =
    let few : n ≤ 65535 = omega arith in
    let sum = add z (pos n) in
    let l = le-true (negsuc 359999999) z low in
    let h = le-true z (pos 360000000) high in
    let near = above (z +ℤ pos n) (omega arith) in
    rw (held_exact z n high few) (near, omega (arith, raised_is (z +ℤ pos n) near))

-- ---- points

-- at or above -360,000,000, in both coordinates
pub record Near (p : Point) : Type 0 where
  pub lat : dn p.lat ≤ 360000000
  pub lon : dn p.lon ≤ 360000000

pub record InReach (p : Point) : Type 0 where
  pub near : Near p
  pub small : Small (place_of p)

pub end_reach : (p : Point) → is_point p.lat p.lon ≡ true → InReach p
end_reach p e =
    let (lat, y) = degrees p.lat (and_left (is_degrees p.lat) (is_degrees p.lon) e) in
    let (lon, x) = degrees p.lon (and_right (is_degrees p.lat) (is_degrees p.lon) e) in
    record { near = record { lat = lat; lon = lon }; small = record { y = y; x = x } }

node_reach : (h : Header) (k : TileKey) (n : Node) → Passed h k → n.y < 65536 → n.x < 65536 → InReach (point_of h k n)
unfolding point_of
node_reach h k n p y_small x_small =
    let (south_low, south_high) = corner_south h k p.ruled p.gridded in
    let (west_low, west_high) = corner_west h k p.ruled p.gridded in
    let (lat, y) = inside (corner_of h k).south n.y south_low south_high y_small in
    let (lon, x) = inside (corner_of h k).west n.x west_low west_high x_small in
    record { near = record { lat = lat; lon = lon }; small = record { y = y; x = x } }

module _ (bs : List ℕ) (bytes : (i : ℕ) → get_or bs i 0 < 256) where
  place_small : (at : ℕ) → ((place_at bs at).y < 65536) × ((place_at bs at).x < 65536)
  unfolding place_at
  place_small at = (u16_below bs bytes (at + 2), u16_below bs bytes at)

  point_small : (e : Edge) (index : ℕ) → ((Layout.point_of bs e index).y < 65536) × ((Layout.point_of bs e index).x < 65536)
  unfolding Layout.point_of
  point_small e index = go (eqb index 0) (ltb e.vertices index)
    where
      picked : Bool → Bool → Node
      picked t u = cond t (Layout.node_of bs e.from) (cond u (Layout.node_of bs e.to) (Layout.vertex_of bs (e.first_vertex + index - 1)))

      go : (t u : Bool) → ((picked t u).y < 65536) × ((picked t u).x < 65536)
      go true u = place_small (Layout.node_start e.from)
      go false true = place_small (Layout.node_start e.to)
      go false false = place_small (Layout.vertex_start bs (e.first_vertex + index - 1))

  pub point_reach : (h : Header) (k : TileKey) → Passed h k → (e : Edge) (index : ℕ) → InReach (point_of h k (Layout.point_of bs e index))
  point_reach h k p e index =
      let (y, x) = point_small e index in
      node_reach h k (Layout.point_of bs e index) p y x
