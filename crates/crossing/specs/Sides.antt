-- The sign tests of the code, restated for the proofs: nothing here has to be believed, since proofs/Meeting.antt shows them equal to specs/Segments.antt.
-- A place is a point counted from -360,000,000, so that its numbers are not negative.
use Rattle.std.specs.Prelude.{ℕ, ◌+◌, ◌*◌, ◌≤◌, ◌<◌, ◌^◌, min, max, ◌≡◌, Bool, true, false, ◌&&◌, ◌||◌, not, cond, List, ltb, ℤ, pos, ◌+ℤ◌, Option, Some, None}
use Rattle.pack.specs.Sector.{rules}
use Rattle.pack.specs.Grid.{natural, in_grid}
use Rattle.pack.specs.declared.Header.{Header}
use Rattle.pack.specs.declared.TileKey.{TileKey}
use Rattle.tile.specs.Layout as Layout
use Rattle.tile.specs.declared.Edge.{Edge}
use Rattle.geo.specs.Points as Points
use Rattle.geo.specs.declared.Point.{Point}
use Rattle.crossing.specs.Crossing.{IsSegment}
use Rattle.crossing.specs.declared.Place.{Place}

-- z counted from -360,000,000, and 0 below that
unfoldable pub raised : ℤ → ℕ
raised z = natural (z +ℤ pos 360000000)

abbrev pub place_of : Point → Place
place_of p = record { y = raised p.lat; x = raised p.lon }

-- twice the area of the triangle a b c is `side a b c` less `side b a c`: more than 0 where c lies left of the line from a to b
unfoldable pub side : Place → Place → Place → ℕ
side a b c = b.x * c.y + b.y * a.x + a.y * c.x

-- small enough for 64 bits
pub record Small (p : Place) : Type 0 where
  pub y : p.y < 2 ^ 30
  pub x : p.x < 2 ^ 30

abbrev pub left : Place → Place → Place → Bool
left a b c = ltb (side b a c) (side a b c)

-- c and e lie strictly on one side of the line from a to b
unfoldable pub beside : Place → Place → Place → Place → Bool
beside a b c e = cond (left a b c) (left a b e) (left b a c && left b a e)

-- from p to q and from r to s have no number in common
unfoldable pub apart : ℕ → ℕ → ℕ → ℕ → Bool
apart p q r s = ltb (max p q) (min r s) || ltb (max r s) (min p q)

unfoldable pub meets : Place → Place → Place → Place → Bool
meets a b c e =
    not (apart a.y b.y c.y e.y)
    && (not (apart a.x b.x c.x e.x)
    && (not (beside a b c e)
    && not (beside c e a b)))

-- ---- the searches

-- what the inner functions are given: the header and the key have passed
pub record Passed (h : Header) (k : TileKey) : Type 0 where
  pub ruled : rules h ≡ true
  pub gridded : in_grid h k ≡ true

abbrev pub place_at : Header → TileKey → List ℕ → Edge → ℕ → Place
place_at h k bs e index = place_of (Points.point_of h k (Layout.point_of bs e index))

-- an edge's place, small enough for the areas
pub record Placed (h : Header) (k : TileKey) (bs : List ℕ) (e : Edge) (index : ℕ) (r : Place) : Type 0 where
  pub is : r ≡ place_at h k bs e index
  pub small : Small r

unfoldable pub meets_at : Place → Place → Header → TileKey → List ℕ → Edge → ℕ → Bool
meets_at a b h k bs e s = meets a b (place_at h k bs e s) (place_at h k bs e (s + 1))

-- a segment of an edge that meets the transect, or none
abbrev pub InEdge : Place → Place → Header → TileKey → List ℕ → Edge → Option ℕ → Type 0
InEdge a b h k bs e (Some s) = (s ≤ e.vertices) × (meets_at a b h k bs e s ≡ true)
InEdge a b h k bs e None = (s : ℕ) → s ≤ e.vertices → meets_at a b h k bs e s ≡ false

-- a segment of a tile that does, or none
abbrev pub InTile : Place → Place → Header → TileKey → List ℕ → Option (ℕ × ℕ) → Type 0
InTile a b h k bs (Some (edge, s)) = IsSegment bs edge s × (meets_at a b h k bs (Layout.edge_of bs edge) s ≡ true)
InTile a b h k bs None = (edge s : ℕ) → IsSegment bs edge s → meets_at a b h k bs (Layout.edge_of bs edge) s ≡ false
