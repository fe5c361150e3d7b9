-- Where each field of a tile stands: document 01, "tile.rs". The readers and the writer go by these names.
use Rattle.std.specs.Prelude.{ℕ}

-- ---- in the head, of 32 bytes

-- "VT"
abbrev pub magic_at : ℕ
magic_at = 0

abbrev pub version_at : ℕ
version_at = 2

abbrev pub row_at : ℕ
row_at = 4

abbrev pub col_at : ℕ
col_at = 6

abbrev pub nodes_at : ℕ
nodes_at = 8

abbrev pub edges_at : ℕ
edges_at = 10

abbrev pub vertices_at : ℕ
vertices_at = 12

abbrev pub lon_um_at : ℕ
lon_um_at = 16

-- CRC, taken as zero when summed
abbrev pub sum_at : ℕ
sum_at = 24

-- ---- in a node, of 8 bytes, and in a vertex, of 6, which has no adjacency start: x stands first, where the record does

abbrev pub y_at : ℕ
y_at = 2

abbrev pub z_at : ℕ
z_at = 4

abbrev pub start_at : ℕ
start_at = 6

-- ---- in an edge, of 16 bytes: its start node stands first, where the record does

abbrev pub to_at : ℕ
to_at = 2

abbrev pub first_vertex_at : ℕ
first_vertex_at = 4

abbrev pub edge_vertices_at : ℕ
edge_vertices_at = 8

abbrev pub class_at : ℕ
class_at = 10

abbrev pub flags_at : ℕ
flags_at = 11

abbrev pub group_at : ℕ
group_at = 12
