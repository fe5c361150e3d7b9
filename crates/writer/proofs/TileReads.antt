-- What a reader finds in a written tile: the key, lon_um, nodes, edges, vertices and adjacency that were given, and a good CRC. That `Tile::parse`
-- accepts it for its key and size is TileParsed. Theorems about the definitions alone: the writer's contract says that its output is `tile_bytes`.
use Prim.Native.Nat.{ℕ, ◌+◌, ◌-◌, ◌*◌, ◌≤◌, ◌<◌}
use mathlib.Core.Path.{◌≡◌, refl, sym, ap, ◌∙◌}
use mathlib.Core.Bool.{Bool, true, false}
use mathlib.Core.List.{List, ◌++◌, append_assoc}
use native.Mathlib.Omega.{arith}
use lib.Dec.{ltb}
use lib.ListN as ListN
use lib.ListN.{get_or, take, drop, replicate, length-replicate, get_or-replicate, length-drop, take-append-drop}
use lib.Seq.{ext_get_or, get_or-take, get_or-drop, length-take-le, take_at, drop_at, drop-drop}
use borrow.Author.Tests.{eq-eqb, ltb-true, ltb-false}
use Rattle.crc.specs.Fcs.{crc32, crc32_skipping, zeroed}
use Rattle.crc.proofs.Below.{crc_below}
use Rattle.pack.specs.Bytes.{byte_at, u16_at, u32_at}
use Rattle.tile.specs.Offsets as At
use Rattle.tile.specs.Layout.{nodes_of, edges_of, vertices_of, head_of, node_start, entry_start, edge_start, vertex_start, place_at, node_of, edge_of, vertex_of, adjacency_start, adjacency_end}
use Rattle.tile.specs.Parse.{is_sum}
use Rattle.tile.specs.declared.Node.{Node}
use Rattle.tile.specs.declared.Edge.{Edge}
use Rattle.writer.specs.Fields.{Field, little_endian, put, puts, holding}
use Rattle.writer.specs.TileWritten.{Given, tile_good, tile_bytes, tile_fields, tile_length, unsummed, node_count, edge_count, vertex_count, edges_base, vertices_base, field, fields_below, head_fields, node_fields, entry_field, edge_fields, vertex_fields, place_given, edge_given, entries_at, entries_below, first_entry}
use Rattle.writer.proofs.FieldLaws.{end, Rising, rising_from, rising_to, rising_append, rising_below, length-put, length-puts, puts-append, puts_before, puts_behind, put_in, Holds, holds_in, holds_behind, holds_before, In, here, there, in_left, in_right, in_below, byte_read, u16_read, u32_read}
use Rattle.writer.proofs.EntryLaws.{first_fits, first_rises, entries_below_lem, entry_at}
use Rattle.writer.proofs.NodeLaws.{node_rises}
use Rattle.writer.proofs.GivenLaws.{good_length, good_edge, good_entries}

-- ---- what the widths of the writer's arguments say

pub record Widths (g : Given) : Type 0 where
  pub row : g.key.row < 0x1_0000
  pub col : g.key.col < 0x1_0000
  pub lon_um : g.lon_um < 0x1_0000_0000
  pub nodes : (i : ℕ) → get_or g.nodes i 0 < 0x1_0000
  pub vertices : (i : ℕ) → get_or g.vertices i 0 < 0x1_0000

-- ---- the fields rise, in two parts: the head, and behind the CRC's field the records

module _ (g : Given) where
  abbrev head : List Field
  head = head_fields g.key g.lon_um (node_count g) (edge_count g) (vertex_count g)

  abbrev nodes : List Field
  nodes = fields_below (node_fields g.nodes g.edges) (node_count g)

  abbrev entries : List Field
  entries = fields_below (entry_field (node_count g) g.edges) (edge_count g * 2)

  abbrev edges : List Field
  edges = fields_below (edge_fields (edges_base g) g.edges) (edge_count g)

  abbrev vertices : List Field
  vertices = fields_below (vertex_fields (vertices_base g) g.vertices) (vertex_count g)

  abbrev records : List Field
  records = nodes ++ (entries ++ (edges ++ vertices))

  head_rises : Rising 0 head At.sum_at
  head_rises = (omega arith, (omega arith, (omega arith, (omega arith, (omega arith, (omega arith, (omega arith, (omega arith, omega arith))))))))

  nodes_rise : Rising 32 nodes (node_start (node_count g))
  nodes_rise = rising_below node_start (node_fields g.nodes g.edges) (node_rises g.nodes g.edges) (node_count g)

  entries_rise : Rising (node_start (node_count g)) entries (edges_base g)
  entries_rise =
      let start : ℕ → ℕ = λ (j : ℕ). node_start (node_count g) + j * 2 in
      rising_from (start 0) (node_start (node_count g)) (edges_base g) entries (omega arith)
      (rising_to (start 0) (start (edge_count g * 2)) (edges_base g) entries (omega arith)
      (rising_below start (entry_field (node_count g) g.edges) (λ (j : ℕ). (omega arith, omega arith)) (edge_count g * 2)))

  edges_rise : Rising (edges_base g) edges (vertices_base g)
  edges_rise =
      let start : ℕ → ℕ = λ (i : ℕ). edges_base g + i * 16 in
      rising_from (start 0) (edges_base g) (vertices_base g) edges (omega arith)
      (rising_below start (edge_fields (edges_base g) g.edges)
      (λ (i : ℕ). (omega arith, (omega arith, (omega arith, (omega arith, (omega arith, (omega arith, (omega arith, omega arith))))))))
      (edge_count g))

  vertices_rise : Rising (vertices_base g) vertices (tile_length g)
  vertices_rise =
      let start : ℕ → ℕ = λ (v : ℕ). vertices_base g + v * 6 in
      rising_from (start 0) (vertices_base g) (tile_length g) vertices (omega arith)
      (rising_to (start 0) (start (vertex_count g)) (tile_length g) vertices (omega arith)
      (rising_below start (vertex_fields (vertices_base g) g.vertices) (λ (v : ℕ). (omega arith, (omega arith, (omega arith, omega arith)))) (vertex_count g)))

  records_rise : Rising 32 records (tile_length g)
  records_rise =
      rising_append 32 (node_start (node_count g)) (tile_length g) nodes (entries ++ (edges ++ vertices)) nodes_rise
      (rising_append (node_start (node_count g)) (edges_base g) (tile_length g) entries (edges ++ vertices) entries_rise
      (rising_append (edges_base g) (vertices_base g) (tile_length g) edges vertices edges_rise vertices_rise))

  all_rise : Rising 0 (head ++ records) (tile_length g)
  all_rise = rising_append 0 32 (tile_length g) head records (rising_to 0 At.sum_at 32 head (omega arith) head_rises) records_rise

  abbrev blank : List ℕ
  blank = replicate (tile_length g) 0

  length_blank : ListN.length blank ≡ tile_length g
  length_blank = length-replicate (tile_length g) 0

  unsummed_is : unsummed g ≡ puts (head ++ records) blank
  unfolding holding tile_fields
  unsummed_is = refl

  length_unsummed : ListN.length (unsummed g) ≡ tile_length g
  length_unsummed =
      ap ListN.length unsummed_is
      ∙ length-puts 0 (tile_length g) (head ++ records) blank all_rise (omega (arith, length_blank))
      ∙ length_blank

  -- zero where the CRC is to stand
  unsummed_zero : (k : ℕ) → 24 ≤ k → k < 32 → get_or (unsummed g) k 0 ≡ 0
  unsummed_zero k low high =
      let headed : ListN.length (puts head blank) ≡ ListN.length blank = length-puts 0 At.sum_at head blank head_rises (omega (arith, length_blank)) in
      ap (λ (bs : List ℕ). get_or bs k 0) (unsummed_is ∙ puts-append head records blank)
      ∙ puts_before 32 (tile_length g) records (puts head blank) records_rise (omega (arith, length_blank, headed)) k high
      ∙ puts_behind 0 At.sum_at head blank head_rises (omega (arith, length_blank)) k low
      ∙ get_or-replicate (tile_length g) k 0 0 (omega arith)

  abbrev sum : Field
  sum = field At.sum_at 4 (crc32 (unsummed g))

  sum_fits : end sum ≤ ListN.length (unsummed g)
  sum_fits = omega (arith, length_unsummed)

  tile_is : tile_bytes g ≡ put sum (unsummed g)
  unfolding tile_bytes
  tile_is = refl

  pub written_length : ListN.length (tile_bytes g) ≡ tile_length g
  written_length = ap ListN.length tile_is ∙ length-put sum (unsummed g) sum_fits ∙ length_unsummed

  -- each field of the head and of the records stands in the tile
  unsummed_holds : {f : Field} → In f (head ++ records) → Holds f (unsummed g)
  unsummed_holds {f} i =
      rw unsummed_is (holds_in 0 (tile_length g) (head ++ records) blank all_rise (omega (arith, length_blank)) i)

  in_head : {f : Field} → In f head → end f ≤ 24 → Holds f (tile_bytes g)
  in_head {f} i before = rw tile_is (holds_behind f sum (unsummed g) sum_fits before (unsummed_holds (in_left records i)))

  in_records : {f : Field} → In f records → 28 ≤ f.at → Holds f (tile_bytes g)
  in_records {f} i behind = rw tile_is (holds_before f sum (unsummed g) sum_fits behind (unsummed_holds (in_right head i)))

-- ---- the head

module _ (g : Given) (ok : tile_good g ≡ true) (w : Widths g) where
  abbrev tile : List ℕ
  tile = tile_bytes g

  short : tile_length g ≤ 49152
  short = good_length g ok

  pub magic_read : u16_at tile At.magic_at ≡ 0x5456
  magic_read = u16_read tile At.magic_at 0x5456 (in_head g here (omega arith)) (omega arith)

  pub version_read : byte_at tile At.version_at ≡ 1
  version_read = byte_read tile At.version_at 1 (in_head g (there here) (omega arith)) (omega arith)

  pub row_read : u16_at tile At.row_at ≡ g.key.row
  row_read = u16_read tile At.row_at g.key.row (in_head g (there (there here)) (omega arith)) w.row

  pub col_read : u16_at tile At.col_at ≡ g.key.col
  col_read = u16_read tile At.col_at g.key.col (in_head g (there (there (there here))) (omega arith)) w.col

  pub nodes_read : nodes_of tile ≡ node_count g
  nodes_read = u16_read tile At.nodes_at (node_count g) (in_head g (there (there (there (there here)))) (omega arith)) (omega (arith, short))

  pub edges_read : edges_of tile ≡ edge_count g
  edges_read = u16_read tile At.edges_at (edge_count g) (in_head g (there (there (there (there (there here))))) (omega arith)) (omega (arith, short))

  pub vertices_read : vertices_of tile ≡ vertex_count g
  vertices_read =
      u32_read tile At.vertices_at (vertex_count g) (in_head g (there (there (there (there (there (there here)))))) (omega arith)) (omega (arith, short))

  pub lon_read : u32_at tile At.lon_um_at ≡ g.lon_um
  lon_read = u32_read tile At.lon_um_at g.lon_um (in_head g (there (there (there (there (there (there (there here))))))) (omega arith)) w.lon_um

  pub written_head : head_of tile ≡ record { key = g.key; nodes = node_count g; edges = edge_count g; vertices = vertex_count g; lon_um = g.lon_um }
  written_head = rw (row_read, col_read, nodes_read, edges_read, vertices_read, lon_read)

  -- ---- nodes and vertices

  node_holds : {f : Field} (i : ℕ) → i < node_count g → In f (node_fields g.nodes g.edges i) → 28 ≤ f.at → Holds f tile
  node_holds i h t behind = in_records g (in_left (entries g ++ (edges g ++ vertices g)) (in_below (node_fields g.nodes g.edges) i (node_count g) h t)) behind

  pub written_node : (i : ℕ) → i < node_count g → node_of tile i ≡ place_given g.nodes i
  unfolding place_at
  written_node i h =
      let n : Node = place_given g.nodes i in
      rw (
        u16_read tile (node_start i) n.x (node_holds i h here (omega arith)) (w.nodes (i * 3)),
        u16_read tile (node_start i + At.y_at) n.y (node_holds i h (there here) (omega arith)) (w.nodes (i * 3 + 1)),
        u16_read tile (node_start i + At.z_at) n.z (node_holds i h (there (there here)) (omega arith)) (w.nodes (i * 3 + 2)),
      )

  pub first_small : (i : ℕ) → i ≤ node_count g → first_entry g.edges i ≤ edge_count g * 2
  first_small i h =
      let e : i + (node_count g - i) ≡ node_count g = omega arith in
      let z : first_entry g.edges (i + (node_count g - i)) ≡ first_entry g.edges (node_count g) = ap (first_entry g.edges) e in
      omega (arith, z, first_rises g.edges i (node_count g - i), good_entries g ok)

  pub written_start : (i : ℕ) → i < node_count g → adjacency_start tile i ≡ first_entry g.edges i
  written_start i h =
      u16_read tile (node_start i + At.start_at) (first_entry g.edges i) (node_holds i h (there (there (there here))) (omega arith))
      (omega (arith, short, first_small i (omega arith)))

  vertex_holds : {f : Field} (v : ℕ) → v < vertex_count g → In f (vertex_fields (vertices_base g) g.vertices v) → 28 ≤ f.at → Holds f tile
  vertex_holds v h t behind =
      in_records g (in_right (nodes g) (in_right (entries g) (in_right (edges g) (in_below (vertex_fields (vertices_base g) g.vertices) v (vertex_count g) h t)))) behind

  vertex_place : (v : ℕ) → vertex_start tile v ≡ vertices_base g + v * 6
  vertex_place v = rw (nodes_read, edges_read) (omega arith)

  pub written_vertex : (v : ℕ) → v < vertex_count g → vertex_of tile v ≡ place_given g.vertices v
  unfolding place_at
  written_vertex v h =
      let n : Node = place_given g.vertices v in
      let at : ℕ = vertices_base g + v * 6 in
      rw (
        vertex_place v,
        u16_read tile at n.x (vertex_holds v h here (omega arith)) (w.vertices (v * 3)),
        u16_read tile (at + At.y_at) n.y (vertex_holds v h (there here) (omega arith)) (w.vertices (v * 3 + 1)),
        u16_read tile (at + At.z_at) n.z (vertex_holds v h (there (there here)) (omega arith)) (w.vertices (v * 3 + 2)),
      )

  -- ---- edges

  edge_holds : {f : Field} (i : ℕ) → i < edge_count g → In f (edge_fields (edges_base g) g.edges i) → 28 ≤ f.at → Holds f tile
  edge_holds i h t behind =
      in_records g (in_right (nodes g) (in_right (entries g) (in_left (vertices g) (in_below (edge_fields (edges_base g) g.edges) i (edge_count g) h t)))) behind

  edge_place : (i : ℕ) → edge_start tile i ≡ edges_base g + i * 16
  edge_place i = rw (nodes_read, edges_read)

  pub written_edge : (i : ℕ) → i < edge_count g → edge_of tile i ≡ edge_given g.edges i
  unfolding edge_of
  written_edge i h =
      let e : Edge = edge_given g.edges i in
      let at : ℕ = edges_base g + i * 16 in
      let good = good_edge g ok i h in
      rw (
        edge_place i,
        u16_read tile at e.from (edge_holds i h here (omega arith)) (omega (arith, short, good.from)),
        u16_read tile (at + At.to_at) e.to (edge_holds i h (there here) (omega arith)) (omega (arith, short, good.to)),
        u32_read tile (at + At.first_vertex_at) e.first_vertex (edge_holds i h (there (there here)) (omega arith)) (omega (arith, short, good.within)),
        u16_read tile (at + At.edge_vertices_at) e.vertices (edge_holds i h (there (there (there here))) (omega arith)) (omega (arith, good.count)),
        byte_read tile (at + At.class_at) e.class (edge_holds i h (there (there (there (there here)))) (omega arith)) (omega (arith, good.class)),
        byte_read tile (at + At.flags_at) e.flags (edge_holds i h (there (there (there (there (there here))))) (omega arith)) (omega (arith, good.flags)),
        u16_read tile (at + At.group_at) e.group (edge_holds i h (there (there (there (there (there (there here)))))) (omega arith)) (omega (arith, good.group)),
      )

  -- ---- adjacency

  abbrev all : List ℕ
  all = entries_below g.edges (node_count g)

  entry_place : (j : ℕ) → entry_start tile j ≡ node_start (node_count g) + j * 2
  entry_place j = rw nodes_read

  pub value_below : (j : ℕ) → j < edge_count g * 2 → get_or all j 0 < edge_count g * 2
  value_below j h = entries_below_lem g.edges (node_count g) j (omega (arith, good_entries g ok))

  pub written_entry : (j : ℕ) → j < edge_count g * 2 → u16_at tile (entry_start tile j) ≡ get_or all j 0
  written_entry j h =
      let at : ℕ = node_start (node_count g) + j * 2 in
      let t = in_below (entry_field (node_count g) g.edges) j (edge_count g * 2) h here in
      rw (entry_place j)
      (u16_read tile at (get_or all j 0) (in_records g (in_right (nodes g) (in_left (edges g ++ vertices g) t)) (omega arith))
      (omega (arith, short, value_below j h)))

  -- where a node's entries end, the next node's begin
  pub written_end : (i : ℕ) → i < node_count g → adjacency_end tile i ≡ first_entry g.edges (i + 1)
  written_end i h = go (ltb (i + 1) (node_count g)) refl
    where
      go : (t : Bool) → ltb (i + 1) (node_count g) ≡ t → adjacency_end tile i ≡ first_entry g.edges (i + 1)
      go true e = rw (nodes_read, e) (written_start (i + 1) (ltb-true (i + 1) (node_count g) e))
      go false e =
          let last : i + 1 ≡ node_count g = omega (arith, ltb-false (i + 1) (node_count g) e) in
          rw (nodes_read, e, edges_read) (sym (ap (first_entry g.edges) last ∙ good_entries g ok))

  -- the k-th entry of a node: by edge, start before end
  pub written_entries : (i k : ℕ) → i < node_count g → k < ListN.length (entries_at g.edges i)
      → u16_at tile (entry_start tile (first_entry g.edges i + k)) ≡ get_or (entries_at g.edges i) k 0
  written_entries i k h l =
      written_entry (first_entry g.edges i + k) (omega (arith, first_fits g.edges i (node_count g) h, good_entries g ok))
      ∙ entry_at g.edges i (node_count g) h k l

  -- ---- the CRC

  sum_read : u32_at tile At.sum_at ≡ crc32 (unsummed g)
  sum_read =
      u32_read tile At.sum_at (crc32 (unsummed g)) (rw (tile_is g) (λ (i : ℕ) (h : i < 4). put_in (sum g) (unsummed g) (sum_fits g) i h)) (crc_below (unsummed g))

  -- the tile with the CRC taken as zero is the tile before its CRC was put in
  zeros_there : take 4 (drop 24 (unsummed g)) ≡ replicate 4 0
  zeros_there =
      let rest : ListN.length (drop 24 (unsummed g)) ≡ tile_length g - 24 = length-drop 24 (unsummed g) ∙ ap (λ (n : ℕ). n - 24) (length_unsummed g) in
      let four : ListN.length (take 4 (drop 24 (unsummed g))) ≡ 4 = length-take-le 4 (drop 24 (unsummed g)) (omega (arith, rest)) in
      ext_get_or 0 (take 4 (drop 24 (unsummed g))) (replicate 4 0) four
      (λ (i : ℕ) (h : i < ListN.length (take 4 (drop 24 (unsummed g)))).
      get_or-take 4 (drop 24 (unsummed g)) i 0 (omega (arith, four))
      ∙ get_or-drop 24 (unsummed g) i 0
      ∙ unsummed_zero g (24 + i) (omega arith) (omega (arith, four))
      ∙ sym (get_or-replicate 4 i 0 0 (omega (arith, four))))

  zeroed_is : zeroed tile At.sum_at ≡ unsummed g
  unfolding zeroed put little_endian
  zeroed_is =
      let u : List ℕ = unsummed g in
      let front : List ℕ = take 24 u in
      let bytes : List ℕ = take 4 (little_endian 4 (crc32 u)) in
      let back : List ℕ = drop 28 u in
      let size : ListN.length front ≡ 24 = length-take-le 24 u (omega (arith, length_unsummed g)) in
      let split : tile ≡ front ++ (bytes ++ back) = tile_is g ∙ append_assoc front bytes back in
      let d : drop 24 (front ++ (bytes ++ back)) ≡ bytes ++ back = drop_at front (bytes ++ back) 24 size in
      rw (split, take_at front (bytes ++ back) 24 size, d)
      (ap (λ (xs : List ℕ). front ++ (xs ++ back)) (sym zeros_there)
      ∙ ap (λ (xs : List ℕ). front ++ (take 4 (drop 24 u) ++ xs)) (sym (drop-drop 4 24 u))
      ∙ ap (λ (xs : List ℕ). front ++ xs) (take-append-drop 4 (drop 24 u))
      ∙ take-append-drop 24 u)

  pub written_sum : is_sum tile ≡ true
  unfolding crc32_skipping
  written_sum = eq-eqb (crc32 (zeroed tile At.sum_at)) (u32_at tile At.sum_at) (ap crc32 zeroed_is ∙ sym sum_read)
