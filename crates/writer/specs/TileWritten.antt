-- A tile made of what a route maker gives. Its bytes field by field at the offsets that the readers use
-- (crate tile, Offsets and Layout), and which numbers refuse it.
use Rattle.std.specs.Prelude.{ℕ, zero, suc, ◌+◌, ◌*◌, ◌/◌, ◌%◌, min, Bool, ◌&&◌, cond, List, [], ◌∷◌, ◌++◌, eqb, ltb, leb, Result, Ok, Err}
use Rattle.std.proofs.Math.ListN as ListN
use Rattle.crc.specs.Fcs.{crc32}
use Rattle.pack.specs.declared.TileKey.{TileKey}
use Rattle.pack.specs.Sector.{all_of}
use Rattle.tile.specs.declared.Node.{Node}
use Rattle.tile.specs.declared.Edge.{Edge}
use Rattle.tile.specs.Offsets as At
use Rattle.tile.specs.Layout.{length, node_start}
use Rattle.tile.specs.Parse.{all_below}
use Rattle.tile.specs.Order.{in_order}
use Rattle.refusal.specs.declared.Refusal.{Refusal}
use Rattle.writer.specs.Fields.{Field, put, holding}

-- ---- what is given: key, tile size, lon_um, and the records as numbers, one after the other

-- three numbers a node or vertex: x, y, z; seven an edge: from, to, first vertex, vertices, class, flags, group
pub record Given : Type 0 where
  pub key : TileKey
  pub size : ℕ
  pub lon_um : ℕ
  pub nodes : List ℕ
  pub edges : List ℕ
  pub vertices : List ℕ

abbrev pub given : TileKey → ℕ → ℕ → List ℕ → List ℕ → List ℕ → Given
given key size lon_um nodes edges vertices = record { key = key; size = size; lon_um = lon_um; nodes = nodes; edges = edges; vertices = vertices }

abbrev pub places_in : List ℕ → ℕ
places_in ns = ListN.length ns / 3

abbrev pub edges_in : List ℕ → ℕ
edges_in es = ListN.length es / 7

abbrev pub node_count : Given → ℕ
node_count g = places_in g.nodes

abbrev pub edge_count : Given → ℕ
edge_count g = edges_in g.edges

abbrev pub vertex_count : Given → ℕ
vertex_count g = places_in g.vertices

abbrev pub place_given : List ℕ → ℕ → Node
place_given ns i = record { x = ListN.get_or ns (i * 3) 0; y = ListN.get_or ns (i * 3 + 1) 0; z = ListN.get_or ns (i * 3 + 2) 0 }

abbrev pub edge_given : List ℕ → ℕ → Edge
edge_given es i = record {
  from = ListN.get_or es (i * 7) 0;
  to = ListN.get_or es (i * 7 + 1) 0;
  first_vertex = ListN.get_or es (i * 7 + 2) 0;
  vertices = ListN.get_or es (i * 7 + 3) 0;
  class = ListN.get_or es (i * 7 + 4) 0;
  flags = ListN.get_or es (i * 7 + 5) 0;
  group = ListN.get_or es (i * 7 + 6) 0;
}

abbrev pub tile_length : Given → ℕ
tile_length g = length (node_count g) (edge_count g) (vertex_count g)

-- ---- adjacency: by node, then edge, start before end; an edge from a node to itself has both entries

-- the entries of a node that edges i to i + n - 1 make
unfoldable pub entries_from : List ℕ → ℕ → ℕ → ℕ → List ℕ
entries_from es node i zero = []
entries_from es node i (suc n) =
    cond (eqb (edge_given es i).from node) ((i * 2) ∷ []) []
    ++ (cond (eqb (edge_given es i).to node) ((i * 2 + 1) ∷ []) []
    ++ entries_from es node (i + 1) n)

abbrev pub entries_at : List ℕ → ℕ → List ℕ
entries_at es node = entries_from es node 0 (edges_in es)

-- of the nodes below n
unfoldable pub entries_below : List ℕ → ℕ → List ℕ
entries_below es zero = []
entries_below es (suc n) = entries_below es n ++ entries_at es n

-- a node's first entry comes behind those of the nodes before it
abbrev pub first_entry : List ℕ → ℕ → ℕ
first_entry es node = ListN.length (entries_below es node)

-- ---- the fields

abbrev pub field : ℕ → ℕ → ℕ → Field
field at width value = record { at = at; width = width; value = value }

abbrev pub head_fields : TileKey → ℕ → ℕ → ℕ → ℕ → List Field
head_fields key lon_um nodes edges vertices =
    field At.magic_at 2 0x5456
    ∷ field At.version_at 1 1
    ∷ field At.row_at 2 key.row
    ∷ field At.col_at 2 key.col
    ∷ field At.nodes_at 2 nodes
    ∷ field At.edges_at 2 edges
    ∷ field At.vertices_at 4 vertices
    ∷ field At.lon_um_at 4 lon_um
    ∷ []

abbrev pub place_fields : ℕ → Node → List Field
place_fields at n = field at 2 n.x ∷ field (at + At.y_at) 2 n.y ∷ field (at + At.z_at) 2 n.z ∷ []

-- a node with its first adjacency entry
abbrev pub started_fields : List ℕ → ℕ → ℕ → List Field
started_fields ns i start = place_fields (node_start i) (place_given ns i) ++ (field (node_start i + At.start_at) 2 start ∷ [])

abbrev pub node_fields : List ℕ → List ℕ → ℕ → List Field
node_fields ns es i = started_fields ns i (first_entry es i)

-- the entries stand behind the nodes, the edges behind the entries, the vertices behind the edges
abbrev pub entry_field : ℕ → List ℕ → ℕ → List Field
entry_field nodes es j = field (node_start nodes + j * 2) 2 (ListN.get_or (entries_below es nodes) j 0) ∷ []

abbrev pub edges_base : Given → ℕ
edges_base g = node_start (node_count g) + edge_count g * 4

abbrev pub edge_fields_at : ℕ → Edge → List Field
edge_fields_at at e =
    field at 2 e.from
    ∷ field (at + At.to_at) 2 e.to
    ∷ field (at + At.first_vertex_at) 4 e.first_vertex
    ∷ field (at + At.edge_vertices_at) 2 e.vertices
    ∷ field (at + At.class_at) 1 e.class
    ∷ field (at + At.flags_at) 1 e.flags
    ∷ field (at + At.group_at) 2 e.group
    ∷ []

abbrev pub edge_fields : ℕ → List ℕ → ℕ → List Field
edge_fields base es i = edge_fields_at (base + i * 16) (edge_given es i)

abbrev pub vertices_base : Given → ℕ
vertices_base g = edges_base g + edge_count g * 16

abbrev pub vertex_fields : ℕ → List ℕ → ℕ → List Field
vertex_fields base vs v = place_fields (base + v * 6) (place_given vs v)

-- the fields of the records below n, in order
unfoldable pub fields_below : (ℕ → List Field) → ℕ → List Field
fields_below f zero = []
fields_below f (suc n) = fields_below f n ++ f n

unfoldable pub tile_fields : Given → List Field
tile_fields g =
    head_fields g.key g.lon_um (node_count g) (edge_count g) (vertex_count g)
    ++ (fields_below (node_fields g.nodes g.edges) (node_count g)
    ++ (fields_below (entry_field (node_count g) g.edges) (edge_count g * 2)
    ++ (fields_below (edge_fields (edges_base g) g.edges) (edge_count g)
    ++ fields_below (vertex_fields (vertices_base g) g.vertices) (vertex_count g))))

-- ---- the tile: its fields, then the CRC of it

abbrev pub unsummed : Given → List ℕ
unsummed g = holding (tile_fields g) (tile_length g)

unfoldable pub tile_bytes : Given → List ℕ
tile_bytes g = put (field At.sum_at 4 (crc32 (unsummed g))) (unsummed g)

-- ---- number 13: what a reader would refuse, nodes out of order, a tile over 49,152 bytes

-- whole records
abbrev pub are_whole : Given → Bool
are_whole g = all_of (eqb (ListN.length g.nodes % 3) 0 ∷ eqb (ListN.length g.edges % 7) 0 ∷ eqb (ListN.length g.vertices % 3) 0 ∷ [])

-- no count passes its field
abbrev pub counts_fit : Given → Bool
counts_fit g = all_of (leb (node_count g) 0xffff ∷ leb (edge_count g) 0xffff ∷ leb (vertex_count g) 0xffff_ffff ∷ [])

abbrev pub is_short : Given → Bool
is_short g = leb (tile_length g) 49152

abbrev pub has_lon_given : Given → Bool
has_lon_given g = ltb 0 g.lon_um

-- a node lies within the tile; any size is cut to 65,535, as in `Tile::parse`
abbrev pub node_within : ℕ → List ℕ → ℕ → Bool
node_within size ns i = leb (place_given ns i).x (min size 65535) && leb (place_given ns i).y (min size 65535)

-- an edge's numbers fit their fields, its nodes and vertices are there
abbrev pub edge_fits_given : ℕ → ℕ → Edge → Bool
edge_fits_given nodes vertices e =
    all_of (ltb e.from nodes
    ∷ ltb e.to nodes
    ∷ leb e.vertices 0xffff
    ∷ leb e.class 0xff
    ∷ leb e.flags 0xff
    ∷ leb e.group 0xffff
    ∷ leb (e.first_vertex + e.vertices) vertices
    ∷ [])

abbrev pub edge_good : ℕ → ℕ → List ℕ → ℕ → Bool
edge_good nodes vertices es i = edge_fits_given nodes vertices (edge_given es i)

unfoldable pub tile_good : Given → Bool
tile_good g =
    all_of (are_whole g
    ∷ counts_fit g
    ∷ is_short g
    ∷ has_lon_given g
    ∷ all_below (node_within g.size g.nodes) (node_count g)
    ∷ in_order (place_given g.nodes) (node_count g)
    ∷ all_below (edge_good (node_count g) (vertex_count g) g.edges) (edge_count g)
    ∷ [])

-- ---- the writer: 13, then 14 where the output is too short; both leave it as it was, and what lies past the tile stays

pub record Written : Type 0 where
  pub answer : Result ℕ Refusal
  pub out : List ℕ

unfoldable pub tile : Given → List ℕ → Written
tile g out =
    cond (tile_good g)
    (cond (leb (tile_length g) (ListN.length out))
    (record { answer = Ok (tile_length g); out = tile_bytes g ++ ListN.drop (tile_length g) out })
    (record { answer = Err Refusal.NoRoom; out = out }))
    (record { answer = Err Refusal.BadValue; out = out })
