-- Points in whole millionths of a degree, exactly: `geo.rs`, Point::of, z_dm and edge_point. No float stands here.
use Rattle.std.specs.Prelude.{Result, Ok, Err}
use Rattle.refusal.specs.declared.Refusal.{Refusal}
use Rattle.std.specs.Prelude.{ℕ, ◌*◌, cond, List, ℤ, pos, ◌+ℤ◌, ◌-ℤ◌}
use Rattle.pack.specs.Sector.{rules}
use Rattle.pack.specs.Grid.{in_grid, corner_of, held}
use Rattle.pack.specs.declared.Header.{Header}
use Rattle.pack.specs.declared.TileKey.{TileKey}
use Rattle.tile.specs.Layout as Layout
use Rattle.tile.specs.Readers.{has_point}
use Rattle.tile.specs.declared.Node.{Node}
use Rattle.tile.specs.declared.Edge.{Edge}
use Rattle.geo.specs.declared.Point.{Point}

-- a node's or a vertex's point: its tile's south-west corner, and its place in the tile
unfoldable pub point_of : Header → TileKey → Node → Point
point_of h k n = record { lat = held ((corner_of h k).south +ℤ pos n.y); lon = held ((corner_of h k).west +ℤ pos n.x) }

-- elevation in decimetres: z counts steps of 2 from -5,000
abbrev pub z_dm : Node → ℤ
z_dm n = pos (n.z * 2) -ℤ pos 5000

-- the key that the tile's bytes name
abbrev pub key_of : List ℕ → TileKey
key_of bs = (Layout.head_of bs).key

-- point `index` of an edge of a tile, and its elevation
abbrev pub edge_point_of : Header → List ℕ → Edge → ℕ → Point
edge_point_of h bs e index = point_of h (key_of bs) (Layout.point_of bs e index)

abbrev pub edge_height_of : List ℕ → Edge → ℕ → ℤ
edge_height_of bs e index = z_dm (Layout.point_of bs e index)

-- ---- the public functions: 12 for the header, 9 for a key outside the grid, 7 for a point that is not there

unfoldable pub point : Header → TileKey → Node → Result Point Refusal
point h k n = cond (rules h) (cond (in_grid h k) (Ok (point_of h k n)) (Err Refusal.OutsideGrid)) (Err Refusal.BadState)

unfoldable pub edge_point : Header → List ℕ → Edge → ℕ → Result (Point × ℤ) Refusal
edge_point h bs e index =
    cond (rules h)
    (cond (in_grid h (key_of bs))
    (cond (has_point bs e index) (Ok (edge_point_of h bs e index, edge_height_of bs e index)) (Err Refusal.PastTile))
    (Err Refusal.OutsideGrid))
    (Err Refusal.BadState)
