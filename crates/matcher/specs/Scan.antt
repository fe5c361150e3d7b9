-- The segment of an edge that is closest to a fix, and the way along the edge to it: `matcher.rs`, `search`, the loops over an edge's points.
-- Each float operation is rounded once, in the Rust's order.
use Rattle.std.specs.Prelude.{Option, Some, None, ℕ, ◌+◌, Bool, true, ◌&&◌, ◌||◌, cond, List, Float}
use Rattle.std.specs.Float.{binary32}
use Rattle.std.specs.Float.Ieee.{add, sub, mul, neg, lt, le}
use Rattle.pack.specs.declared.Header.{Header}
use Rattle.pack.specs.declared.TileKey.{TileKey}
use Rattle.tile.specs.Layout as Layout
use Rattle.tile.specs.declared.Edge.{Edge}
use Rattle.geo.specs.declared.Point.{Point}
use Rattle.geo.specs.declared.Metres.{Metres}
use Rattle.geo.specs.Points as Points
use Rattle.geo.specs.Flat.{whole, metres_of, length_of, project_of}
use Rattle.matcher.specs.declared.Nearest.{Nearest}
use Rattle.matcher.specs.declared.scan.Scanned.{Scanned}
use Rattle.matcher.specs.declared.scan.Along.{Along}
use Rattle.num.specs.Fold.{up_to}

-- point `index` of an edge of the tile `key`
unfoldable pub point_of : Header → List ℕ → TileKey → Edge → ℕ → Point
point_of h bs key e index = Points.point_of h key (Layout.point_of bs e index)

-- RADIUS_M
abbrev pub radius : Float
radius = whole 40

abbrev pub origin : Metres
origin = record { east = whole 0; north = whole 0 }

-- both ends far on one side
abbrev pub rejected : Metres → Metres → Bool
rejected a b =
    (lt radius a.east && lt radius b.east)
    || ((lt a.east (neg radius) && lt b.east (neg radius))
    || ((lt radius a.north && lt radius b.north) || (lt a.north (neg radius) && lt b.north (neg radius))))

abbrev pub beats : Option Nearest → Float → Bool
beats None d = true
beats (Some n) d = lt d n.distance

-- in reach, and closer than the closest so far: of equals the first
abbrev pub is_closer : Option Nearest → Float → Bool
is_closer nearest d = le d radius && beats nearest d

abbrev pub nearest_after : Scanned → Metres → ℕ → Option Nearest
nearest_after s b i =
    let p = project_of origin s.at b in
    cond (is_closer s.nearest p.distance)
    (Some (record { segment = i; fraction = p.fraction; distance = p.distance; a = s.at; b = b }))
    s.nearest

-- one segment more: the one number i, from the last point to b
unfoldable pub segment_step : Scanned → Metres → ℕ → Scanned
segment_step s b i = record { at = b; nearest = cond (rejected s.at b) s.nearest (nearest_after s b i) }

-- all of them, in order: one more than the edge has vertices
unfoldable pub scanned : Header → List ℕ → TileKey → Edge → Point → ℕ → ℕ → Scanned
scanned h bs key e fix lon_um n =
    up_to (λ (s : Scanned) (i : ℕ). segment_step s (metres_of (point_of h bs key e (i + 1)) fix lon_um) i)
    (record { at = metres_of (point_of h bs key e 0) fix lon_um; nearest = None })
    n

abbrev pub scan : Header → List ℕ → TileKey → Edge → Point → ℕ → Option Nearest
scan h bs key e fix lon_um = (scanned h bs key e fix lon_um (e.vertices + 1)).nearest

-- ---- along the edge

unfoldable pub along_step : Along → Point → ℕ → Along
along_step s b lon_um =
    let m = metres_of b s.at lon_um in record { at = b; metres = add binary32 s.metres (length_of m.east m.north) }

-- the part of the segment up to the projected fix, then the n segments before it, one by one from the edge's start
unfoldable pub along_to : Header → List ℕ → TileKey → Edge → Nearest → ℕ → ℕ → Along
along_to h bs key e n lon_um count =
    up_to (λ (s : Along) (i : ℕ). along_step s (point_of h bs key e (i + 1)) lon_um)
    (record {
      at = point_of h bs key e 0;
      metres = mul binary32 n.fraction (length_of (sub binary32 n.b.east n.a.east) (sub binary32 n.b.north n.a.north));
    })
    count

abbrev pub along_of : Header → List ℕ → TileKey → Edge → Nearest → ℕ → Float
along_of h bs key e n lon_um = (along_to h bs key e n lon_um n.segment).metres
