-- `Tile::parse` accepts a written tile for its key and size, its nodes stand in order, and the public readers answer what was given.
use Prim.Native.Nat.{ℕ, zero, suc, ◌+◌, ◌-◌, ◌*◌, ◌/◌, ◌%◌, ◌<◌, min}
use mathlib.Core.Path.{◌≡◌, refl, sym, ap, ◌∙◌}
use mathlib.Core.Bool.{Bool, true, false, ◌&&◌, cond}
use mathlib.Core.List.{List}
use native.Mathlib.Nat.{max-eq_left}
use native.Mathlib.Omega.{arith}
use lib.Dec.{ltb, eqb}
use lib.ListN as ListN
use lib.ListN.{get_or}
use borrow.Author.Tests.{le-leb, lt-ltb, eq-eqb, ltb-false, eqb-false}
use Rattle.pack.specs.Bytes.{byte_at, u16_at, u32_at}
use Rattle.tile.specs.Offsets as At
use Rattle.tile.specs.Layout.{nodes_of, edges_of, vertices_of, length, node_start, entry_start, edge_start, place_at, node_of, edge_of, point_of}
use Rattle.tile.specs.Parse.{all_below, accepts, parse, node_ok, edge_fits, edge_ok, entry_ok}
use Rattle.tile.specs.Order.{follows, in_order}
use Rattle.tile.specs.Readers as Readers
use Rattle.tile.specs.declared.Node.{Node}
use Rattle.tile.specs.declared.Edge.{Edge}
use Rattle.tile.specs.declared.Incident.{Incident}
use Rattle.std.specs.Prelude.{Ok}
use Rattle.tile.proofs.Laws.{all_at}
use Rattle.tile.proofs.Within.{accepted_node, accepted_edge, accepted_entry, accepted_incident, point_reads}
use Rattle.writer.specs.TileWritten.{Given, tile_good, tile_bytes, tile_length, node_count, edge_count, vertex_count, place_given, edge_given, entries_at, first_entry}
use Rattle.writer.proofs.EntryLaws.{first_fits, first_more}
use Rattle.writer.proofs.GivenLaws.{EdgeGiven, good_lon, good_node, good_order, good_edge, good_entries}
use Rattle.writer.proofs.TileReads.{Widths, written_length, magic_read, version_read, row_read, col_read, nodes_read, edges_read, vertices_read, lon_read, written_head, written_node, written_start, first_small, written_vertex, written_edge, value_below, written_entry, written_end, written_entries, written_sum}

-- ---- conjunctions and tests of every number, from their parts

pub both : {a b : Bool} → a ≡ true → b ≡ true → (a && b) ≡ true
both {a} {b} p q = rw (p, q)

pub every : (p : ℕ → Bool) (n : ℕ) → ((i : ℕ) → i < n → p i ≡ true) → all_below p n ≡ true
unfolding all_below
every p zero h = refl
every p (suc n) h = both (every p n (λ (i : ℕ) (l : i < n). h i (omega arith))) (h n (omega arith))

-- ---- accepted

module _ (g : Given) (ok : tile_good g ≡ true) (w : Widths g) where
  abbrev tile : List ℕ
  tile = tile_bytes g

  node_ok_lem : (i : ℕ) → i < node_count g → node_ok tile (min g.size 65535) i ≡ true
  unfolding node_ok place_at
  node_ok_lem i h =
      let x : u16_at tile (node_start i) ≡ (place_given g.nodes i).x = ap (λ (n : Node). n.x) (written_node g ok w i h) in
      let y : u16_at tile (node_start i + At.y_at) ≡ (place_given g.nodes i).y = ap (λ (n : Node). n.y) (written_node g ok w i h) in
      let good = good_node g ok i h in
      both (le-leb (u16_at tile (node_start i)) (min g.size 65535) (omega (arith, x, good.0)))
      (both (le-leb (u16_at tile (node_start i + At.y_at)) (min g.size 65535) (omega (arith, y, good.1)))
      (le-leb (u16_at tile (node_start i + At.start_at)) (edges_of tile * 2)
      (omega (arith, written_start g ok w i h, edges_read g ok w, first_small g ok w i (omega arith)))))

  edge_ok_lem : (i : ℕ) → i < edge_count g → edge_ok tile i ≡ true
  unfolding edge_fits edge_of
  edge_ok_lem i h =
      let at : ℕ = edge_start tile i in
      let e : Edge = edge_given g.edges i in
      let from : u16_at tile at ≡ e.from = ap (λ (x : Edge). x.from) (written_edge g ok w i h) in
      let to : u16_at tile (at + At.to_at) ≡ e.to = ap (λ (x : Edge). x.to) (written_edge g ok w i h) in
      let first : u32_at tile (at + At.first_vertex_at) ≡ e.first_vertex = ap (λ (x : Edge). x.first_vertex) (written_edge g ok w i h) in
      let count : u16_at tile (at + At.edge_vertices_at) ≡ e.vertices = ap (λ (x : Edge). x.vertices) (written_edge g ok w i h) in
      let good : EdgeGiven (node_count g) (vertex_count g) e = good_edge g ok i h in
      both (lt-ltb (u16_at tile at) (nodes_of tile) (omega (arith, from, good.from, nodes_read g ok w)))
      (both (lt-ltb (u16_at tile (at + At.to_at)) (nodes_of tile) (omega (arith, to, good.to, nodes_read g ok w)))
      (le-leb (u32_at tile (at + At.first_vertex_at) + u16_at tile (at + At.edge_vertices_at)) (vertices_of tile)
      (omega (arith, first, count, good.within, vertices_read g ok w))))

  entry_ok_lem : (j : ℕ) → j < edge_count g * 2 → entry_ok tile j ≡ true
  unfolding entry_ok
  entry_ok_lem j h =
      lt-ltb (u16_at tile (entry_start tile j) / 2) (edges_of tile) (omega (arith, written_entry g ok w j h, value_below g ok w j h, edges_read g ok w))

  follows_same : (i : ℕ) → i < node_count g → follows (node_of tile) i ≡ follows (place_given g.nodes) i
  unfolding follows
  follows_same zero h = refl
  follows_same (suc i) h = rw (written_node g ok w (suc i) h, written_node g ok w i (omega arith))

  pub written_ordered : in_order (node_of tile) (nodes_of tile) ≡ true
  written_ordered =
      every (follows (node_of tile)) (nodes_of tile)
      (λ (i : ℕ) (h : i < nodes_of tile).
      let l : i < node_count g = omega (arith, nodes_read g ok w) in
      follows_same i l ∙ all_at (follows (place_given g.nodes)) i (node_count g) l (good_order g ok))

  pub written_accepts : accepts tile g.key g.size ≡ true
  unfolding accepts
  written_accepts =
      let size : ListN.length tile ≡ tile_length g = written_length g in
      let whole : length (nodes_of tile) (edges_of tile) (vertices_of tile) ≡ ListN.length tile
      = rw (nodes_read g ok w, edges_read g ok w, vertices_read g ok w) (sym size) in
      both (le-leb 32 (ListN.length tile) (omega (arith, size)))
      (both (eq-eqb (u16_at tile At.magic_at) 0x5456 (magic_read g ok w))
      (both (eq-eqb (byte_at tile At.version_at) 1 (version_read g ok w))
      (both (written_sum g ok w)
      (both
      (both (eq-eqb (u16_at tile At.row_at) g.key.row (row_read g ok w)) (eq-eqb (u16_at tile At.col_at) g.key.col (col_read g ok w)))
      (both (eq-eqb (length (nodes_of tile) (edges_of tile) (vertices_of tile)) (ListN.length tile) whole)
      (both (lt-ltb 0 (u32_at tile At.lon_um_at) (omega (arith, lon_read g ok w, good_lon g ok)))
      (both (every (node_ok tile (min g.size 65535)) (nodes_of tile) (λ (i : ℕ) (h : i < nodes_of tile). node_ok_lem i (omega (arith, nodes_read g ok w))))
      (both (every (edge_ok tile) (edges_of tile) (λ (i : ℕ) (h : i < edges_of tile). edge_ok_lem i (omega (arith, edges_read g ok w))))
      (both (every (entry_ok tile) (edges_of tile * 2) (λ (j : ℕ) (h : j < edges_of tile * 2). entry_ok_lem j (omega (arith, edges_read g ok w))))
      (both written_ordered refl))))))))))

  pub written_parses : parse tile g.key g.size
      ≡ Ok (record { key = g.key; nodes = node_count g; edges = edge_count g; vertices = vertex_count g; lon_um = g.lon_um })
  unfolding parse
  written_parses = rw (written_accepts, written_head g ok w)

  -- ---- the public readers

  pub node_answers : (i : ℕ) → i < node_count g → Readers.node tile i ≡ Ok (place_given g.nodes i)
  node_answers i h = accepted_node tile g.key g.size written_accepts i (omega (arith, nodes_read g ok w)) ∙ ap Ok (written_node g ok w i h)

  pub edge_answers : (i : ℕ) → i < edge_count g → Readers.edge tile i ≡ Ok (edge_given g.edges i)
  edge_answers i h = accepted_edge tile g.key g.size written_accepts i (omega (arith, edges_read g ok w)) ∙ ap Ok (written_edge g ok w i h)

  pub incident_answers : (i : ℕ) → i < node_count g
      → Readers.incident tile i ≡ Ok (record { start = first_entry g.edges i; end = first_entry g.edges (i + 1) })
  incident_answers i h =
      accepted_incident tile g.key g.size written_accepts i (omega (arith, nodes_read g ok w))
      ∙ rw (written_end g ok w i h, written_start g ok w i h, max-eq_left {n = first_entry g.edges (i + 1)} {m = first_entry g.edges i} (omega (arith, first_more g.edges i)))

  -- an entry that is given as a number: edge × 2, plus 1 where the edge ends there
  abbrev incident_of : ℕ → Incident
  incident_of value = record { edge = value / 2; ends = eqb (value % 2) 1 }

  pub entry_answers : (i k : ℕ) → i < node_count g → k < ListN.length (entries_at g.edges i)
      → Readers.incident_entry tile (first_entry g.edges i + k) ≡ Ok (incident_of (get_or (entries_at g.edges i) k 0))
  entry_answers i k h l =
      accepted_entry tile g.key g.size written_accepts (first_entry g.edges i + k)
      (omega (arith, edges_read g ok w, first_fits g.edges i (node_count g) h, good_entries g ok))
      ∙ ap (λ (value : ℕ). Ok (incident_of value)) (written_entries g ok w i k h l)

  -- point `index` of an edge: its start node, its vertices, its end node
  abbrev pub point_given : Edge → ℕ → Node
  point_given e index =
      cond (eqb index 0) (place_given g.nodes e.from)
      (cond (ltb e.vertices index) (place_given g.nodes e.to) (place_given g.vertices (e.first_vertex + index - 1)))

  pub point_answers : (i : ℕ) → i < edge_count g → (index : ℕ)
      → Readers.point tile (edge_given g.edges i) index ≡ Ok (point_given (edge_given g.edges i) index)
  unfolding point_of
  point_answers i h index =
      let e : Edge = edge_given g.edges i in
      ap (λ (x : Edge). Readers.point tile x index) (sym (written_edge g ok w i h))
      ∙ point_reads tile g.key g.size written_accepts i (omega (arith, edges_read g ok w)) index
      ∙ ap (λ (x : Edge). Ok (point_of tile x index)) (written_edge g ok w i h)
      ∙ ap Ok (go (eqb index 0) (ltb e.vertices index) refl refl)
    where
      go : (first past : Bool) → eqb index 0 ≡ first → ltb (edge_given g.edges i).vertices index ≡ past
          → point_of tile (edge_given g.edges i) index ≡ point_given (edge_given g.edges i) index
      go true past p q = rw p (written_node g ok w (edge_given g.edges i).from (good_edge g ok i h).from)
      go false true p q = rw (p, q) (written_node g ok w (edge_given g.edges i).to (good_edge g ok i h).to)
      go false false p q =
          rw (p, q)
          (written_vertex g ok w ((edge_given g.edges i).first_vertex + index - 1)
          (omega (arith, (good_edge g ok i h).within, ltb-false (edge_given g.edges i).vertices index q, eqb-false index 0 p)))
