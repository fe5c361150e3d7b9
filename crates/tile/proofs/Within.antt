-- What an accepted tile tells a caller: its length, its key, that each record lies within its bytes, that each number of a record is in range, and
-- that its nodes stand in order.
-- So a reader of an accepted tile answers what it answered before the bytes were asked, and none of an index below its count is refused. Then what an answer of `parse` says. All of it is about the definitions alone.
use Prim.Native.Nat.{ℕ, ◌+◌, ◌-◌, ◌*◌, ◌/◌, ◌≤◌, ◌<◌, min, max}
use mathlib.Core.Path.{◌≡◌, refl}
use mathlib.Core.Bool.{Bool, true, false, ◌&&◌, cond}
use mathlib.Core.List.{List}
use native.Mathlib.Nat.{max-le, le-max_right}
use native.Mathlib.Omega.{arith}
use lib.Dec.{leb, ltb, eqb}
use lib.ListN as ListN
use borrow.Author.Tests.{ltb-true, ltb-false, leb-true, eqb-true, eqb-false, lt-ltb, le-leb}
use Rattle.pack.specs.Bytes.{u16_at, u32_at}
use Rattle.pack.specs.declared.TileKey.{TileKey}
use Rattle.std.specs.Prelude.{Ok, Err}
use Rattle.refusal.specs.declared.Refusal.{Refusal}
use Rattle.tile.specs.Layout.{nodes_of, edges_of, vertices_of, head_of, length, node_start, entry_start, edge_start, vertex_start, place_at, node_of, edge_of, entry_of, point_of, adjacency_start, adjacency_end}
use Rattle.tile.specs.Parse.{accepts, parse, clauses, node_ok, edge_fits, edge_ok, entry_ok, nodes_ordered}
use Rattle.tile.specs.Readers as Readers
use Rattle.tile.specs.declared.Head.{Head}
use Rattle.tile.specs.declared.Entries.{Entries}
use Rattle.tile.proofs.Laws.{and_left, and_right, all_at, clause}
use Rattle.tile.proofs.Slices.{length_right, node_there, entry_there, edge_there}

-- ---- records

-- a node lies within the tile, its adjacency start within the entries
pub record NodeGood (bs : List ℕ) (size i : ℕ) : Type 0 where
  pub x : (node_of bs i).x ≤ min size 65535
  pub y : (node_of bs i).y ≤ min size 65535
  pub start : adjacency_start bs i ≤ edges_of bs * 2

-- an edge's two nodes are there, and its vertices
pub record EdgeGood (bs : List ℕ) (i : ℕ) : Type 0 where
  pub from : (edge_of bs i).from < nodes_of bs
  pub to : (edge_of bs i).to < nodes_of bs
  pub vertices : (edge_of bs i).first_vertex + (edge_of bs i).vertices ≤ vertices_of bs

node_ok_lem : (bs : List ℕ) (size i : ℕ) → node_ok bs (min size 65535) i ≡ true → NodeGood bs size i
unfolding node_ok place_at
node_ok_lem bs size i e =
    let at : ℕ = node_start i in
    let x_in : Bool = leb (u16_at bs at) (min size 65535) in
    let y_in : Bool = leb (u16_at bs (at + 2)) (min size 65535) in
    let start_in : Bool = leb (u16_at bs (at + 6)) (edges_of bs * 2) in
    let rest : (y_in && start_in) ≡ true = and_right x_in (y_in && start_in) e in
    record {
      x = leb-true (u16_at bs at) (min size 65535) (and_left x_in (y_in && start_in) e);
      y = leb-true (u16_at bs (at + 2)) (min size 65535) (and_left y_in start_in rest);
      start = leb-true (u16_at bs (at + 6)) (edges_of bs * 2) (and_right y_in start_in rest);
    }

edge_ok_lem : (bs : List ℕ) (i : ℕ) → edge_ok bs i ≡ true → EdgeGood bs i
unfolding edge_fits edge_of
edge_ok_lem bs i e =
    let at : ℕ = edge_start bs i in
    let from_in : Bool = ltb (u16_at bs at) (nodes_of bs) in
    let to_in : Bool = ltb (u16_at bs (at + 2)) (nodes_of bs) in
    let vertices_in : Bool = leb (u32_at bs (at + 4) + u16_at bs (at + 8)) (vertices_of bs) in
    let rest : (to_in && vertices_in) ≡ true = and_right from_in (to_in && vertices_in) e in
    record {
      from = ltb-true (u16_at bs at) (nodes_of bs) (and_left from_in (to_in && vertices_in) e);
      to = ltb-true (u16_at bs (at + 2)) (nodes_of bs) (and_left to_in vertices_in rest);
      vertices = leb-true (u32_at bs (at + 4) + u16_at bs (at + 8)) (vertices_of bs) (and_right to_in vertices_in rest);
    }

-- ---- readers: a record that is below its count and within the bytes is read

both : {a b : Bool} → a ≡ true → b ≡ true → (a && b) ≡ true
both {a} {b} p q = rw (p, q)

module _ (bs : List ℕ) where
  pub has_node_lem : (i : ℕ) → i < nodes_of bs → node_start i + 8 ≤ ListN.length bs → Readers.has_node bs i ≡ true
  has_node_lem i h k = both (lt-ltb i (nodes_of bs) h) (le-leb (node_start i + 8) (ListN.length bs) k)

  pub node_reads : (i : ℕ) → i < nodes_of bs → node_start i + 8 ≤ ListN.length bs → Readers.node bs i ≡ Ok (node_of bs i)
  unfolding Readers.node
  node_reads i h k = rw (has_node_lem i h k)

  pub edge_reads : (i : ℕ) → i < edges_of bs → edge_start bs i + 16 ≤ ListN.length bs → Readers.edge bs i ≡ Ok (edge_of bs i)
  unfolding Readers.edge
  edge_reads i h k = rw (lt-ltb i (edges_of bs) h, le-leb (edge_start bs i + 16) (ListN.length bs) k)

  pub entry_reads : (j : ℕ) → j < edges_of bs * 2 → entry_start bs j + 2 ≤ ListN.length bs → Readers.incident_entry bs j ≡ Ok (entry_of bs j)
  unfolding Readers.incident_entry
  entry_reads j h k = rw (lt-ltb j (edges_of bs * 2) h, le-leb (entry_start bs j + 2) (ListN.length bs) k)

-- where a node's entries end: with none, where they begin
abbrev pub entries_end : List ℕ → ℕ → ℕ
entries_end bs i = max (adjacency_end bs i) (adjacency_start bs i)

abbrev pub entries : List ℕ → ℕ → Entries
entries bs i = record { start = adjacency_start bs i; end = entries_end bs i }

-- a node's entries are read where the records of all nodes are within the bytes
pub incident_reads : (bs : List ℕ) (i : ℕ) → i < nodes_of bs → node_start (nodes_of bs) ≤ ListN.length bs
    → Readers.incident bs i ≡ Ok (entries bs i)
unfolding Readers.incident
incident_reads bs i h k = rw (go (ltb (i + 1) (nodes_of bs)) refl)
  where
    go : (t : Bool) → ltb (i + 1) (nodes_of bs) ≡ t → Readers.has_node bs (cond t (i + 1) i) ≡ true
    go true e = let l : i + 1 < nodes_of bs = ltb-true (i + 1) (nodes_of bs) e in has_node_lem bs (i + 1) l (omega arith)
    go false e = has_node_lem bs i h (omega arith)

pub incident_rises : (bs : List ℕ) (i : ℕ) → adjacency_start bs i ≤ entries_end bs i
incident_rises bs i = le-max_right (adjacency_end bs i) (adjacency_start bs i)

-- ---- accepted bytes

module _ (bs : List ℕ) (key : TileKey) (size : ℕ) (ok : accepts bs key size ≡ true) where
  holds : (k : ℕ) → ListN.get_or (clauses bs key size) k true ≡ true
  unfolding accepts
  holds k = clause k (clauses bs key size) ok

  pub length_is : length (nodes_of bs) (edges_of bs) (vertices_of bs) ≡ ListN.length bs
  length_is = length_right bs (holds 5)

  pub key_is : (head_of bs).key ≡ key
  key_is =
      let row : Bool = eqb (u16_at bs 4) key.row in
      let col : Bool = eqb (u16_at bs 6) key.col in
      rw (eqb-true (u16_at bs 4) key.row (and_left row col (holds 4)), eqb-true (u16_at bs 6) key.col (and_right row col (holds 4)))

  pub lon_positive : 0 < (head_of bs).lon_um
  lon_positive = ltb-true 0 (u32_at bs 16) (holds 6)

  -- the bytes of a record lie within the slice

  pub node_within : (i : ℕ) → i < nodes_of bs → node_start i + 8 ≤ ListN.length bs
  node_within i h = node_there bs (holds 5) i h

  pub entry_within : (j : ℕ) → j < edges_of bs * 2 → entry_start bs j + 2 ≤ ListN.length bs
  entry_within j h = entry_there bs (holds 5) j h

  pub edge_within : (i : ℕ) → i < edges_of bs → edge_start bs i + 16 ≤ ListN.length bs
  edge_within i h = edge_there bs (holds 5) i h

  pub vertex_within : (v : ℕ) → v < vertices_of bs → vertex_start bs v + 6 ≤ ListN.length bs
  vertex_within v h = omega (arith, length_is)

  -- so each record that is below its count is read

  pub accepted_node : (i : ℕ) → i < nodes_of bs → Readers.node bs i ≡ Ok (node_of bs i)
  accepted_node i h = node_reads bs i h (node_within i h)

  pub accepted_edge : (i : ℕ) → i < edges_of bs → Readers.edge bs i ≡ Ok (edge_of bs i)
  accepted_edge i h = edge_reads bs i h (edge_within i h)

  pub accepted_entry : (j : ℕ) → j < edges_of bs * 2 → Readers.incident_entry bs j ≡ Ok (entry_of bs j)
  accepted_entry j h = entry_reads bs j h (entry_within j h)

  pub accepted_incident : (i : ℕ) → i < nodes_of bs → Readers.incident bs i ≡ Ok (entries bs i)
  accepted_incident i h = incident_reads bs i h (omega (arith, length_is))

  -- and the search goes over every node
  pub nodes_there_lem : Readers.nodes_there bs ≡ nodes_of bs
  nodes_there_lem = omega (arith, length_is)

  -- the numbers of a record are in range

  pub node_good : (i : ℕ) → i < nodes_of bs → NodeGood bs size i
  node_good i h = node_ok_lem bs size i (all_at (node_ok bs (min size 65535)) i (nodes_of bs) h (holds 7))

  pub edge_good_lem : (i : ℕ) → i < edges_of bs → EdgeGood bs i
  edge_good_lem i h = edge_ok_lem bs i (all_at (edge_ok bs) i (edges_of bs) h (holds 8))

  pub entry_good : (j : ℕ) → j < edges_of bs * 2 → (entry_of bs j).edge < edges_of bs
  unfolding entry_ok
  entry_good j h = ltb-true (u16_at bs (entry_start bs j) / 2) (edges_of bs) (all_at (entry_ok bs) j (edges_of bs * 2) h (holds 9))

  pub accepted_order : nodes_ordered bs ≡ true
  accepted_order = holds 10

  -- a node's entries are among all entries
  pub incident_within : (i : ℕ) → i < nodes_of bs → entries_end bs i ≤ edges_of bs * 2
  incident_within i h = max-le (go (ltb (i + 1) (nodes_of bs)) refl) (node_good i h).start
    where
      go : (t : Bool) → ltb (i + 1) (nodes_of bs) ≡ t → adjacency_end bs i ≤ edges_of bs * 2
      go true e = rw e (node_good (i + 1) (ltb-true (i + 1) (nodes_of bs) e)).start
      go false e = rw e (omega arith)

  -- every point of an edge is there
  pub point_reads : (i : ℕ) → i < edges_of bs → (index : ℕ) → Readers.point bs (edge_of bs i) index ≡ Ok (point_of bs (edge_of bs i) index)
  unfolding Readers.point Readers.has_point
  point_reads i h index = rw (go (eqb index 0) (ltb (edge_of bs i).vertices index) refl refl)
    where
      go : (first past : Bool) → eqb index 0 ≡ first → ltb (edge_of bs i).vertices index ≡ past → Readers.has_point bs (edge_of bs i) index ≡ true
      go true past e f =
          rw (e, has_node_lem bs (edge_of bs i).from (edge_good_lem i h).from (node_within (edge_of bs i).from (edge_good_lem i h).from))
      go false true e f =
          rw (e, f, has_node_lem bs (edge_of bs i).to (edge_good_lem i h).to (node_within (edge_of bs i).to (edge_good_lem i h).to))
      go false false e f =
          let there : (edge_of bs i).first_vertex + index - 1 < vertices_of bs
          = omega (arith, (edge_good_lem i h).vertices, ltb-false (edge_of bs i).vertices index f, eqb-false index 0 e) in
          let v : ℕ = (edge_of bs i).first_vertex + index - 1 in
          rw (e, f) (both (lt-ltb v (vertices_of bs) there) (le-leb (vertex_start bs v + 6) (ListN.length bs) (vertex_within v there)))

-- ---- what an answer of `parse` says

pub parse-accepts : (bs : List ℕ) (key : TileKey) (size : ℕ) (h : Head) → parse bs key size ≡ Ok h → (accepts bs key size ≡ true) × (h ≡ head_of bs)
unfolding parse
parse-accepts bs key size h e = go (accepts bs key size) e
  where
    go : (b : Bool) → cond b (Ok (head_of bs)) (Err Refusal.Corrupt) ≡ Ok h → (b ≡ true) × (h ≡ head_of bs)
    go true q = (refl, cc)
    go false q = (cc, cc)

pub parse_refuses : (bs : List ℕ) (key : TileKey) (size : ℕ) (n : Refusal) → parse bs key size ≡ Err n → (accepts bs key size ≡ false) × (n ≡ Refusal.Corrupt)
unfolding parse
parse_refuses bs key size n e = go (accepts bs key size) e
  where
    go : (b : Bool) → cond b (Ok (head_of bs)) (Err Refusal.Corrupt) ≡ Err n → (b ≡ false) × (n ≡ Refusal.Corrupt)
    go true q = (cc, cc)
    go false q = (refl, cc)
