-- Number 13 is no wider than the readers: records that some accepted tile of at most 49,152 bytes holds, its nodes in order, are not refused.
-- With TileParsed, which finds such a tile for all that is not refused, both directions.
use Prim.Native.Nat.{ℕ, zero, suc, ◌+◌, ◌≤◌, ◌<◌, min}
use mathlib.Core.Path.{◌≡◌, refl, sym, ap, ◌∙◌}
use mathlib.Core.Bool.{true}
use mathlib.Core.List.{List}
use native.Mathlib.Omega.{arith}
use lib.ListN as ListN
use lib.ListN.{get_or}
use borrow.Author.Tests.{le-leb, lt-ltb}
use Rattle.pack.proofs.Laws.{u16_below}
use Rattle.tile.specs.Offsets as At
use Rattle.tile.specs.Layout.{nodes_of, edges_of, vertices_of, head_of, edge_start, node_of, edge_of}
use Rattle.tile.specs.Parse.{accepts}
use Rattle.tile.specs.Order.{follows, in_order}
use Rattle.tile.specs.declared.Head.{Head}
use Rattle.tile.specs.declared.Node.{Node}
use Rattle.tile.specs.declared.Edge.{Edge}
use Rattle.tile.proofs.Laws.{all_at}
use Rattle.tile.proofs.Within.{NodeGood, EdgeGood, length_is, lon_positive, node_good, edge_good_lem}
use Rattle.writer.specs.TileWritten.{Given, tile_good, are_whole, tile_bytes, node_count, edge_count, vertex_count, tile_length, place_given, edge_given, node_within, edge_good}
use Rattle.writer.proofs.TileReads.{Widths, written_head, written_node, written_edge}
use Rattle.writer.proofs.TileParsed.{both, every, written_accepts}

-- an accepted tile that holds these records
pub record Read (g : Given) (bs : List ℕ) : Type 0 where
  pub accepted : accepts bs g.key g.size ≡ true
  pub head : head_of bs ≡ record { key = g.key; nodes = node_count g; edges = edge_count g; vertices = vertex_count g; lon_um = g.lon_um }
  pub nodes : (i : ℕ) → i < node_count g → node_of bs i ≡ place_given g.nodes i
  pub edges : (i : ℕ) → i < edge_count g → edge_of bs i ≡ edge_given g.edges i

pub written_read : (g : Given) → tile_good g ≡ true → Widths g → Read g (tile_bytes g)
written_read g ok w =
    record { accepted = written_accepts g ok w; head = written_head g ok w; nodes = written_node g ok w; edges = written_edge g ok w }

module _ (g : Given) (bs : List ℕ) (bytes : (i : ℕ) → get_or bs i 0 < 256) (read : Read g bs) where
  node_count_lem : nodes_of bs ≡ node_count g
  node_count_lem = ap (λ (h : Head). h.nodes) read.head

  edge_count_lem : edges_of bs ≡ edge_count g
  edge_count_lem = ap (λ (h : Head). h.edges) read.head

  vertex_count_lem : vertices_of bs ≡ vertex_count g
  vertex_count_lem = ap (λ (h : Head). h.vertices) read.head

  lon : (head_of bs).lon_um ≡ g.lon_um
  lon = ap (λ (h : Head). h.lon_um) read.head

  length_given : tile_length g ≡ ListN.length bs
  length_given = rw (← node_count_lem, ← edge_count_lem, ← vertex_count_lem) (length_is bs g.key g.size read.accepted)

  within : (i : ℕ) → i < node_count g → node_within g.size g.nodes i ≡ true
  within i h =
      let good : NodeGood bs g.size i = node_good bs g.key g.size read.accepted i (omega (arith, node_count_lem)) in
      let n : Node = place_given g.nodes i in
      let x : (node_of bs i).x ≡ n.x = ap (λ (n : Node). n.x) (read.nodes i h) in
      let y : (node_of bs i).y ≡ n.y = ap (λ (n : Node). n.y) (read.nodes i h) in
      both (le-leb n.x (min g.size 65535) (omega (arith, x, good.x))) (le-leb n.y (min g.size 65535) (omega (arith, y, good.y)))

  edge_fits : (i : ℕ) → i < edge_count g → edge_good (node_count g) (vertex_count g) g.edges i ≡ true
  unfolding edge_of
  edge_fits i h =
      let good : EdgeGood bs i = edge_good_lem bs g.key g.size read.accepted i (omega (arith, edge_count_lem)) in
      let at : ℕ = edge_start bs i in
      let e : Edge = edge_given g.edges i in
      let from : (edge_of bs i).from ≡ e.from = ap (λ (x : Edge). x.from) (read.edges i h) in
      let to : (edge_of bs i).to ≡ e.to = ap (λ (x : Edge). x.to) (read.edges i h) in
      let first : (edge_of bs i).first_vertex ≡ e.first_vertex = ap (λ (x : Edge). x.first_vertex) (read.edges i h) in
      let count : (edge_of bs i).vertices ≡ e.vertices = ap (λ (x : Edge). x.vertices) (read.edges i h) in
      let class : (edge_of bs i).class ≡ e.class = ap (λ (x : Edge). x.class) (read.edges i h) in
      let flags : (edge_of bs i).flags ≡ e.flags = ap (λ (x : Edge). x.flags) (read.edges i h) in
      let group : (edge_of bs i).group ≡ e.group = ap (λ (x : Edge). x.group) (read.edges i h) in
      both (lt-ltb e.from (node_count g) (omega (arith, from, good.from, node_count_lem)))
      (both (lt-ltb e.to (node_count g) (omega (arith, to, good.to, node_count_lem)))
      (both (le-leb e.vertices 0xffff (omega (arith, count, u16_below bs bytes (at + At.edge_vertices_at))))
      (both (le-leb e.class 0xff (omega (arith, class, bytes (at + At.class_at))))
      (both (le-leb e.flags 0xff (omega (arith, flags, bytes (at + At.flags_at))))
      (both (le-leb e.group 0xffff (omega (arith, group, u16_below bs bytes (at + At.group_at))))
      (both (le-leb (e.first_vertex + e.vertices) (vertex_count g) (omega (arith, first, count, good.vertices, vertex_count_lem))) refl))))))

  follows_given : (i : ℕ) → i < node_count g → follows (node_of bs) i ≡ follows (place_given g.nodes) i
  unfolding follows
  follows_given zero h = refl
  follows_given (suc i) h = rw (read.nodes (suc i) h, read.nodes i (omega arith))

  pub not_refused : are_whole g ≡ true → ListN.length bs ≤ 49152 → in_order (node_of bs) (nodes_of bs) ≡ true → tile_good g ≡ true
  unfolding tile_good
  not_refused whole short ordered =
      both whole
      (both
      (both (le-leb (node_count g) 0xffff (omega (arith, length_given)))
      (both (le-leb (edge_count g) 0xffff (omega (arith, length_given))) (both (le-leb (vertex_count g) 0xffff_ffff (omega (arith, length_given))) refl)))
      (both (le-leb (tile_length g) 49152 (omega (arith, length_given)))
      (both (lt-ltb 0 g.lon_um (omega (arith, lon, lon_positive bs g.key g.size read.accepted)))
      (both (every (node_within g.size g.nodes) (node_count g) within)
      (both
      (every (follows (place_given g.nodes)) (node_count g)
      (λ (i : ℕ) (h : i < node_count g). sym (follows_given i h) ∙ all_at (follows (node_of bs)) i (nodes_of bs) (omega (arith, node_count_lem)) ordered))
      (both (every (edge_good (node_count g) (vertex_count g) g.edges) (edge_count g) edge_fits) refl))))))
