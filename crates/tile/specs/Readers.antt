-- The public readers, each with its refusal: "index past the tile" is 7 (document 01, "Refused"), which is an index past its count, and a record that does
-- not end within the bytes, whatever the counts of the head claim. In bytes that `parse` accepts every record ends within them.
use Rattle.std.specs.Prelude.{ℕ, zero, suc, ◌+◌, ◌-◌, ◌*◌, ◌/◌, min, max, Bool, ◌&&◌, cond, List, leb, ltb, eqb, length, Option, Some, None, Result, Ok, Err}
use Rattle.refusal.specs.declared.Refusal.{Refusal}
use Rattle.tile.specs.Layout.{nodes_of, edges_of, vertices_of, node_start, edge_start, entry_start, vertex_start, node_of, edge_of, entry_of, point_of, adjacency_start, adjacency_end}
use Rattle.tile.specs.Below.{any_below}
pub use Rattle.tile.specs.Order.{before}
use Rattle.tile.specs.declared.Node.{Node}
use Rattle.tile.specs.declared.Edge.{Edge}
use Rattle.tile.specs.declared.Entries.{Entries}
use Rattle.tile.specs.declared.Incident.{Incident}

-- ---- which records are there

-- the record of `size` bytes at `at` ends within the bytes
abbrev pub inside : List ℕ → ℕ → ℕ → Bool
inside bs at size = leb (at + size) (length bs)

abbrev pub has_node : List ℕ → ℕ → Bool
has_node bs i = ltb i (nodes_of bs) && inside bs (node_start i) 8

abbrev pub has_edge : List ℕ → ℕ → Bool
has_edge bs i = ltb i (edges_of bs) && inside bs (edge_start bs i) 16

abbrev pub has_entry : List ℕ → ℕ → Bool
has_entry bs j = ltb j (edges_of bs * 2) && inside bs (entry_start bs j) 2

abbrev pub has_vertex : List ℕ → ℕ → Bool
has_vertex bs v = ltb v (vertices_of bs) && inside bs (vertex_start bs v) 6

-- ---- the readers

unfoldable pub node : List ℕ → ℕ → Result Node Refusal
node bs i = cond (has_node bs i) (Ok (node_of bs i)) (Err Refusal.PastTile)

unfoldable pub edge : List ℕ → ℕ → Result Edge Refusal
edge bs i = cond (has_edge bs i) (Ok (edge_of bs i)) (Err Refusal.PastTile)

-- the node whose record is read last for a node's entries: the next one where there is one, else the node itself
abbrev pub last_read : List ℕ → ℕ → ℕ
last_read bs i = cond (ltb (i + 1) (nodes_of bs)) (i + 1) i

-- a node's entries, from the first up to the last: where starts fall there are none
unfoldable pub incident : List ℕ → ℕ → Result Entries Refusal
incident bs i =
    cond (has_node bs (last_read bs i)) (Ok (record { start = adjacency_start bs i; end = max (adjacency_end bs i) (adjacency_start bs i) }))
    (Err Refusal.PastTile)

unfoldable pub incident_entry : List ℕ → ℕ → Result Incident Refusal
incident_entry bs j = cond (has_entry bs j) (Ok (entry_of bs j)) (Err Refusal.PastTile)

-- whether what a point number reads is there: the start node, the end node, or a vertex
unfoldable pub has_point : List ℕ → Edge → ℕ → Bool
has_point bs e index =
    cond (eqb index 0) (has_node bs e.from)
    (cond (ltb e.vertices index) (has_node bs e.to) (has_vertex bs (e.first_vertex + index - 1)))

unfoldable pub point : List ℕ → Edge → ℕ → Result Node Refusal
point bs e index = cond (has_point bs e index) (Ok (point_of bs e index)) (Err Refusal.PastTile)

-- ---- node_at: the binary search over the order of y, then x

-- between low and high, the middle is looked at first; `left` bounds the steps, and as many as there are nodes are enough
unfoldable pub search : ℕ → List ℕ → ℕ → ℕ → ℕ → ℕ → Option ℕ
search zero bs x y low high = None
search (suc left) bs x y low high =
    let middle = (low + high) / 2 in
    let n = node_of bs middle in
    cond (ltb low high)
    (cond (before n.y n.x y x) (search left bs x y (middle + 1) high)
    (cond (before y x n.y n.x) (search left bs x y low middle) (Some middle)))
    None

-- how many nodes are there: those of the count whose records end within the bytes
abbrev pub nodes_there : List ℕ → ℕ
nodes_there bs = min (nodes_of bs) ((length bs - 32) / 8)

unfoldable pub node_at : List ℕ → ℕ → ℕ → Option ℕ
node_at bs x y = search (nodes_there bs) bs x y 0 (nodes_there bs)

-- ---- which places are found: document 02, request 7. Of several nodes at one place the search finds one, and which is the search's own

-- node i stands at (x, y)
abbrev pub stands_at : List ℕ → ℕ → ℕ → ℕ → Bool
stands_at bs x y i = eqb (node_of bs i).x x && eqb (node_of bs i).y y

-- a node stands at (x, y)
abbrev pub is_there : List ℕ → ℕ → ℕ → Bool
is_there bs x y = any_below (stands_at bs x y) (nodes_of bs)
