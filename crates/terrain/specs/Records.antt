-- The records that cross to C by value, and the library's own: field for field the same, so nothing is cut.
use Rattle.std.specs.Prelude.{Float, pos}
use Rattle.std.specs.Float.{binary32}
use Rattle.std.specs.Float.Ieee.{of_bits}
use Rattle.pack.specs.declared.Header.{Header}
use Rattle.pack.specs.declared.TileKey.{TileKey}
use Rattle.tile.specs.declared.Edge.{Edge}
use Rattle.tile.specs.declared.Node.{Node}
use Rattle.geo.specs.declared.Point.{Point}
use Rattle.geo.specs.declared.Metres.{Metres}
use Rattle.terrain.specs.declared.records.TerrainHeader.{TerrainHeader}
use Rattle.terrain.specs.declared.records.TerrainKey.{TerrainKey}
use Rattle.terrain.specs.declared.records.TerrainNode.{TerrainNode}
use Rattle.terrain.specs.declared.records.TerrainEdge.{TerrainEdge}
use Rattle.terrain.specs.declared.records.TerrainPoint.{TerrainPoint}
use Rattle.terrain.specs.declared.records.TerrainMetres.{TerrainMetres}

-- ---- the library's records from C's

abbrev pub header_of : TerrainHeader → Header
header_of h = record {
  tile = h.tile;
  south = h.south;
  west = h.west;
  rows = h.rows;
  cols = h.cols;
  directory = h.directory;
  «data» = h.«data»;
  total = h.total;
  tiles = h.tiles;
  created = h.created;
  attribution_offset = h.attribution_offset;
  attribution_len = h.attribution_len;
}

abbrev pub key_of : TerrainKey → TileKey
key_of k = record { row = k.row; col = k.col }

abbrev pub edge_of : TerrainEdge → Edge
edge_of e = record {
  from = e.from;
  to = e.to;
  first_vertex = e.first_vertex;
  vertices = e.vertices;
  class = e.class;
  flags = e.flags;
  group = e.group;
}

abbrev pub point_of : TerrainPoint → Point
point_of p = record { lat = p.lat; lon = p.lon }

abbrev pub metres_of : TerrainMetres → Metres
metres_of m = record { east = m.east; north = m.north }

-- ---- C's records from the library's

abbrev pub header_out : Header → TerrainHeader
header_out h = record {
  tile = h.tile;
  south = h.south;
  west = h.west;
  rows = h.rows;
  cols = h.cols;
  directory = h.directory;
  «data» = h.«data»;
  total = h.total;
  tiles = h.tiles;
  created = h.created;
  attribution_offset = h.attribution_offset;
  attribution_len = h.attribution_len;
}

abbrev pub key_out : TileKey → TerrainKey
key_out k = record { row = k.row; col = k.col }

abbrev pub node_out : Node → TerrainNode
node_out n = record { x = n.x; y = n.y; z = n.z }

abbrev pub edge_out : Edge → TerrainEdge
edge_out e = record {
  from = e.from;
  to = e.to;
  first_vertex = e.first_vertex;
  vertices = e.vertices;
  class = e.class;
  flags = e.flags;
  group = e.group;
}

abbrev pub point_out : Point → TerrainPoint
point_out p = record { lat = p.lat; lon = p.lon }

abbrev pub metres_out : Metres → TerrainMetres
metres_out m = record { east = m.east; north = m.north }

-- ---- zeros, for a result that there is none of

abbrev pub zero : Float
zero = of_bits binary32 0

abbrev pub no_key : TerrainKey
no_key = record { row = 0; col = 0 }

abbrev pub no_node : TerrainNode
no_node = record { x = 0; y = 0; z = 0 }

abbrev pub no_edge : TerrainEdge
no_edge = record { from = 0; to = 0; first_vertex = 0; vertices = 0; class = 0; flags = 0; group = 0 }

abbrev pub no_point : TerrainPoint
no_point = record { lat = pos 0; lon = pos 0 }

abbrev pub no_metres : TerrainMetres
no_metres = record { east = zero; north = zero }
