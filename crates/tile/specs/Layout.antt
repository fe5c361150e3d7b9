-- A tile's bytes: document 01, "tile.rs", and the table at the top of src/lib.rt. Where each record stands, and what it holds. Bytes past the end count as 0.
use Rattle.std.specs.Prelude.{ℕ, ◌+◌, ◌-◌, ◌*◌, ◌/◌, ◌%◌, cond, List, ltb, eqb}
use Rattle.pack.specs.Bytes.{byte_at, u16_at, u32_at}
use Rattle.tile.specs.Offsets as At
use Rattle.tile.specs.declared.Node.{Node}
use Rattle.tile.specs.declared.Edge.{Edge}
use Rattle.tile.specs.declared.Head.{Head}
use Rattle.tile.specs.declared.TileId.{TileId}
use Rattle.tile.specs.declared.Incident.{Incident}

-- ---- the head: key at 4 and 6, nodes 8, edges 10, vertices 12 (4 bytes), lon_um 16, CRC 24

abbrev pub nodes_of : List ℕ → ℕ
nodes_of bs = u16_at bs At.nodes_at

abbrev pub edges_of : List ℕ → ℕ
edges_of bs = u16_at bs At.edges_at

abbrev pub vertices_of : List ℕ → ℕ
vertices_of bs = u32_at bs At.vertices_at

abbrev pub head_of : List ℕ → Head
head_of bs = record {
  key = record { row = u16_at bs At.row_at; col = u16_at bs At.col_at };
  nodes = nodes_of bs;
  edges = edges_of bs;
  vertices = vertices_of bs;
  lon_um = u32_at bs At.lon_um_at;
}

abbrev pub id_of : List ℕ → TileId
id_of bs = record { key = record { row = u16_at bs At.row_at; col = u16_at bs At.col_at }; crc = u32_at bs At.sum_at; edges = edges_of bs }

-- ---- how long a tile is: 32 + 8 × nodes + 20 × edges + 6 × vertices

abbrev pub length : ℕ → ℕ → ℕ → ℕ
length nodes edges vertices = 32 + nodes * 8 + edges * 20 + vertices * 6

-- ---- where the records stand

-- 8 bytes a node
abbrev pub node_start : ℕ → ℕ
node_start i = 32 + i * 8

-- 2 bytes an adjacency entry, two entries an edge
abbrev pub entry_start : List ℕ → ℕ → ℕ
entry_start bs j = 32 + nodes_of bs * 8 + j * 2

-- 16 bytes an edge
abbrev pub edge_start : List ℕ → ℕ → ℕ
edge_start bs i = 32 + nodes_of bs * 8 + edges_of bs * 4 + i * 16

-- 6 bytes a vertex
abbrev pub vertex_start : List ℕ → ℕ → ℕ
vertex_start bs v = 32 + nodes_of bs * 8 + edges_of bs * 20 + v * 6

-- ---- what they hold

-- x, y and z: of a node and of a vertex alike
unfoldable pub place_at : List ℕ → ℕ → Node
place_at bs at = record { x = u16_at bs at; y = u16_at bs (at + At.y_at); z = u16_at bs (at + At.z_at) }

abbrev pub node_of : List ℕ → ℕ → Node
node_of bs i = place_at bs (node_start i)

-- a node's first adjacency entry
abbrev pub adjacency_start : List ℕ → ℕ → ℕ
adjacency_start bs i = u16_at bs (node_start i + At.start_at)

-- an entry is edge << 1, plus 1 where the edge ends at the node
abbrev pub entry_of : List ℕ → ℕ → Incident
entry_of bs j = record { edge = u16_at bs (entry_start bs j) / 2; ends = eqb (u16_at bs (entry_start bs j) % 2) 1 }

-- where a node's entries end: where the next node's begin, and for the last node behind all entries
abbrev pub adjacency_end : List ℕ → ℕ → ℕ
adjacency_end bs i = cond (ltb (i + 1) (nodes_of bs)) (adjacency_start bs (i + 1)) (edges_of bs * 2)

unfoldable pub edge_of : List ℕ → ℕ → Edge
edge_of bs i =
    let at = edge_start bs i in record {
      from = u16_at bs at;
      to = u16_at bs (at + At.to_at);
      first_vertex = u32_at bs (at + At.first_vertex_at);
      vertices = u16_at bs (at + At.edge_vertices_at);
      class = byte_at bs (at + At.class_at);
      flags = byte_at bs (at + At.flags_at);
      group = u16_at bs (at + At.group_at);
    }

abbrev pub vertex_of : List ℕ → ℕ → Node
vertex_of bs v = place_at bs (vertex_start bs v)

-- point `index` of an edge: 0 is its start node, then its vertices, and any number past them its end node
unfoldable pub point_of : List ℕ → Edge → ℕ → Node
point_of bs e index =
    cond (eqb index 0) (node_of bs e.from) (cond (ltb e.vertices index) (node_of bs e.to) (vertex_of bs (e.first_vertex + index - 1)))

abbrev pub points : Edge → ℕ
points e = e.vertices + 2
