-- When a tile's bytes are accepted: document 01, "tile.rs", and document 02, request 7, as a list of named clauses. Whatever fails, the number is 4.
use Rattle.std.specs.Prelude.{ℕ, ◌+◌, ◌*◌, ◌/◌, min, Bool, ◌&&◌, cond, List, [], ◌∷◌, leb, ltb, eqb, Result, Ok, Err}
use Rattle.std.proofs.Math.ListN as ListN
use Rattle.crc.specs.Fcs.{crc32_skipping}
use Rattle.pack.specs.Bytes.{byte_at, u16_at, u32_at}
use Rattle.pack.specs.Sector.{all_of}
use Rattle.pack.specs.declared.TileKey.{TileKey}
use Rattle.refusal.specs.declared.Refusal.{Refusal}
use Rattle.tile.specs.Offsets as At
use Rattle.tile.specs.Layout.{nodes_of, edges_of, vertices_of, length, node_start, entry_start, edge_start, node_of, head_of}
use Rattle.tile.specs.declared.Head.{Head}
unfoldable pub use Rattle.tile.specs.Below.{all_below}
use Rattle.tile.specs.Order.{in_order}

-- ---- the head

abbrev pub is_long : List ℕ → Bool
is_long bs = leb 32 (ListN.length bs)

-- "VT"
abbrev pub is_magic : List ℕ → Bool
is_magic bs = eqb (u16_at bs At.magic_at) 0x5456

abbrev pub is_version : List ℕ → Bool
is_version bs = eqb (byte_at bs At.version_at) 1

-- CRC at 24, taken as zero when summed
abbrev pub is_sum : List ℕ → Bool
is_sum bs = eqb (crc32_skipping bs At.sum_at) (u32_at bs At.sum_at)

abbrev pub is_key : List ℕ → TileKey → Bool
is_key bs key = eqb (u16_at bs At.row_at) key.row && eqb (u16_at bs At.col_at) key.col

abbrev pub is_length : List ℕ → Bool
is_length bs = eqb (length (nodes_of bs) (edges_of bs) (vertices_of bs)) (ListN.length bs)

abbrev pub has_lon : List ℕ → Bool
has_lon bs = ltb 0 (u32_at bs At.lon_um_at)

-- ---- the records

-- the node that stands at `at` lies within the tile, its adjacency start within the entries
abbrev pub node_fits : List ℕ → ℕ → ℕ → ℕ → Bool
node_fits bs size last at = leb (u16_at bs at) size && (leb (u16_at bs (at + At.y_at)) size && leb (u16_at bs (at + At.start_at)) last)

unfoldable pub node_ok : List ℕ → ℕ → ℕ → Bool
node_ok bs size i = node_fits bs size (edges_of bs * 2) (node_start i)

-- any size is cut to 65,535
abbrev pub nodes_good : List ℕ → ℕ → Bool
nodes_good bs size = all_below (node_ok bs (min size 65535)) (nodes_of bs)

-- the edge that stands at `at`: its two nodes are there, and its vertices
unfoldable pub edge_fits : List ℕ → ℕ → ℕ → ℕ → Bool
edge_fits bs nodes vertices at =
    ltb (u16_at bs at) nodes
    && (ltb (u16_at bs (at + At.to_at)) nodes
    && leb (u32_at bs (at + At.first_vertex_at) + u16_at bs (at + At.edge_vertices_at)) vertices)

abbrev pub edge_ok : List ℕ → ℕ → Bool
edge_ok bs i = edge_fits bs (nodes_of bs) (vertices_of bs) (edge_start bs i)

abbrev pub edges_good : List ℕ → Bool
edges_good bs = all_below (edge_ok bs) (edges_of bs)

-- an adjacency entry names an edge
unfoldable pub entry_ok : List ℕ → ℕ → Bool
entry_ok bs j = ltb (u16_at bs (entry_start bs j) / 2) (edges_of bs)

abbrev pub entries_good : List ℕ → Bool
entries_good bs = all_below (entry_ok bs) (edges_of bs * 2)

-- document 02, request 7: no later node lies below an earlier one by y, then x, equals allowed. The writer's 13 asks the same of what it is given
abbrev pub nodes_ordered : List ℕ → Bool
nodes_ordered bs = in_order (node_of bs) (nodes_of bs)

-- ---- parse

abbrev pub clauses : List ℕ → TileKey → ℕ → List Bool
clauses bs key size =
    is_long bs
    ∷ is_magic bs
    ∷ is_version bs
    ∷ is_sum bs
    ∷ is_key bs key
    ∷ is_length bs
    ∷ has_lon bs
    ∷ nodes_good bs size
    ∷ edges_good bs
    ∷ entries_good bs
    ∷ nodes_ordered bs
    ∷ []

unfoldable pub accepts : List ℕ → TileKey → ℕ → Bool
accepts bs key size = all_of (clauses bs key size)

unfoldable pub parse : List ℕ → TileKey → ℕ → Result Head Refusal
parse bs key size = cond (accepts bs key size) (Ok (head_of bs)) (Err Refusal.Corrupt)
