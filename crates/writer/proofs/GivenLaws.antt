-- Laws of number 13's tests of a tile, as the code makes them, and what a tile that passes them tells.
use Prim.Native.Nat.{ℕ, zero, suc, ◌+◌, ◌-◌, ◌*◌, ◌≤◌, ◌<◌, min}
use mathlib.Core.Path.{◌≡◌, refl, sym, ap, ◌∙◌}
use mathlib.Core.Bool.{Bool, true, false, ◌&&◌, not}
use mathlib.Core.List.{List, [], ◌∷◌}
use native.Mathlib.Omega.{arith}
use lib.Dec.{leb, ltb}
use lib.ListN as ListN
use lib.ListN.{get_or}
use borrow.Author.Tests.{leb-true, ltb-true}
use Rattle.std.specs.List.{list_all, range_with_len}
use Rattle.pack.specs.Sector.{all_of}
use Rattle.pack.specs.declared.TileKey.{TileKey}
use Rattle.tile.specs.Parse.{all_below}
use Rattle.tile.specs.Readers.{before}
use Rattle.tile.specs.Order.{follows, in_order}
use Rattle.tile.specs.declared.Edge.{Edge}
use Rattle.tile.proofs.Laws.{and_left, and_right, all_at, clause}
use Rattle.writer.specs.TileWritten.{Given, given, tile_good, are_whole, counts_fit, is_short, has_lon_given, place_given, node_within, edge_given, edge_good, places_in, edges_in, node_count, edge_count, vertex_count, tile_length, first_entry}
use Rattle.writer.specs.Steps.{sized_of, node_good, anywhere}
use Rattle.writer.proofs.EntryLaws.{entries_two}

-- ---- conjunctions

pub and-true : (a : Bool) → (a && true) ≡ a
and-true true = refl
and-true false = refl

pub all_both : (p q : ℕ → Bool) (n : ℕ) → all_below (λ (i : ℕ). p i && q i) n ≡ (all_below p n && all_below q n)
unfolding all_below
all_both p q zero = refl
all_both p q (suc n) =
    ap (λ (b : Bool). b && (p n && q n)) (all_both p q n) ∙ crossed (all_below p n) (all_below q n) (p n) (q n)
  where
    crossed : (a b c d : Bool) → ((a && b) && (c && d)) ≡ ((a && c) && (b && d))
    crossed true true c d = refl
    crossed true false true d = refl
    crossed true false false d = refl
    crossed false b c d = refl

-- a test of each number of a range, one after the other
all_first : (p : ℕ → Bool) (n : ℕ) → all_below p (suc n) ≡ (p 0 && all_below (λ (i : ℕ). p (suc i)) n)
unfolding all_below
all_first p zero = sym (and-true (p 0))
all_first p (suc n) = ap (λ (b : Bool). b && p (suc n)) (all_first p n) ∙ grouped (p 0) (all_below (λ (i : ℕ). p (suc i)) n) (p (suc n))
  where
    grouped : (a b c : Bool) → ((a && b) && c) ≡ (a && (b && c))
    grouped true b c = refl
    grouped false b c = refl

all_from : (p q : ℕ → Bool) (a n : ℕ) → ((i : ℕ) → p (a + i) ≡ q i) → list_all p (range_with_len a n) ≡ all_below q n
unfolding all_below
all_from p q a zero h = refl
all_from p q a (suc n) h =
    rw (zeroth, all_from p (λ (i : ℕ). q (suc i)) (a + 1) n (λ (i : ℕ). ap p (omega arith) ∙ h (suc i))) (sym (all_first q n))
  where
    zeroth : p a ≡ q 0
    zeroth = ap p (omega arith) ∙ h 0

pub all_range : (p : ℕ → Bool) (n : ℕ) → list_all p (range_with_len 0 (n - 0)) ≡ all_below p n
all_range p n = ap (λ (k : ℕ). list_all p (range_with_len 0 k)) (omega arith) ∙ all_from p p 0 n (λ (i : ℕ). ap p (omega arith))

-- ---- nodes

pub follows_first : (ns : List ℕ) (i : ℕ) → i ≡ 0 → follows (place_given ns) i ≡ true
unfolding follows
follows_first ns i e = rw e

pub follows_next : (ns : List ℕ) (i : ℕ) → 0 < i
    → follows (place_given ns) i ≡ not (before (get_or ns (i * 3 + 1) 0) (get_or ns (i * 3) 0) (get_or ns (i * 3 - 2) 0) (get_or ns (i * 3 - 3) 0))
unfolding follows
follows_next ns zero h = absurd (omega arith)
follows_next ns (suc i) h =
    let y : suc i * 3 - 2 ≡ i * 3 + 1 = omega arith in
    let x : suc i * 3 - 3 ≡ i * 3 = omega arith in
    rw (y, x)

-- ---- all of it

regroup : (a b c d e f g : Bool) → all_of (a ∷ b ∷ c ∷ d ∷ e ∷ f ∷ g ∷ []) ≡ ((a && (b && c)) && (d && ((e && f) && g)))
regroup false b c d e f g = refl
regroup true false c d e f g = refl
regroup true true false d e f g = refl
regroup true true true false e f g = refl
regroup true true true true false f g = refl
regroup true true true true true false g = refl
regroup true true true true true true g = and-true g

pub good_by : (size lon_um : ℕ) (ns es vs : List ℕ) → tile_good (anywhere size lon_um ns es vs)
    ≡ (sized_of (ListN.length ns) (ListN.length es) (ListN.length vs)
    && (ltb 0 lon_um
    && (all_below (node_good size ns) (places_in ns)
    && all_below (edge_good (places_in ns) (places_in vs) es) (edges_in es))))
unfolding tile_good
good_by size lon_um ns es vs =
    let g : Given = anywhere size lon_um ns es vs in
    let edges : Bool = all_below (edge_good (places_in ns) (places_in vs) es) (edges_in es) in
    regroup (are_whole g) (counts_fit g) (is_short g) (ltb 0 lon_um) (all_below (node_within size ns) (places_in ns))
    (all_below (follows (place_given ns)) (places_in ns)) edges
    ∙ ap (λ (b : Bool). sized_of (ListN.length ns) (ListN.length es) (ListN.length vs) && (ltb 0 lon_um && (b && edges)))
    (sym (all_both (node_within size ns) (follows (place_given ns)) (places_in ns)))

pub any_key : (key : TileKey) (size lon_um : ℕ) (ns es vs : List ℕ) → tile_good (given key size lon_um ns es vs) ≡ tile_good (anywhere size lon_um ns es vs)
unfolding tile_good
any_key key size lon_um ns es vs = refl

-- ---- what a tile that is not refused with 13 tells

-- an edge's numbers fit their fields, its nodes and vertices are there
pub record EdgeGiven (nodes vertices : ℕ) (e : Edge) : Type 0 where
  pub from : e.from < nodes
  pub to : e.to < nodes
  pub count : e.vertices ≤ 0xffff
  pub class : e.class ≤ 0xff
  pub flags : e.flags ≤ 0xff
  pub group : e.group ≤ 0xffff
  pub within : e.first_vertex + e.vertices ≤ vertices

module _ (g : Given) (ok : tile_good g ≡ true) where
  clauses : List Bool
  clauses =
      are_whole g
      ∷ counts_fit g
      ∷ is_short g
      ∷ has_lon_given g
      ∷ all_below (node_within g.size g.nodes) (node_count g)
      ∷ in_order (place_given g.nodes) (node_count g)
      ∷ all_below (edge_good (node_count g) (vertex_count g) g.edges) (edge_count g)
      ∷ []

  holds : (k : ℕ) → ListN.get_or clauses k true ≡ true
  unfolding tile_good clauses
  holds k = clause k clauses ok

  pub good_length : tile_length g ≤ 49152
  unfolding clauses
  good_length = leb-true (tile_length g) 49152 (holds 2)

  pub good_lon : 0 < g.lon_um
  unfolding clauses
  good_lon = ltb-true 0 g.lon_um (holds 3)

  pub good_node : (i : ℕ) → i < node_count g
      → ((place_given g.nodes i).x ≤ min g.size 65535) × ((place_given g.nodes i).y ≤ min g.size 65535)
  unfolding clauses
  good_node i h =
      let within : node_within g.size g.nodes i ≡ true = all_at (node_within g.size g.nodes) i (node_count g) h (holds 4) in
      let x : Bool = leb (place_given g.nodes i).x (min g.size 65535) in
      let y : Bool = leb (place_given g.nodes i).y (min g.size 65535) in (
        leb-true (place_given g.nodes i).x (min g.size 65535) (and_left x y within),
        leb-true (place_given g.nodes i).y (min g.size 65535) (and_right x y within),
      )

  pub good_order : in_order (place_given g.nodes) (node_count g) ≡ true
  unfolding clauses
  good_order = holds 5

  pub good_edge : (i : ℕ) → i < edge_count g → EdgeGiven (node_count g) (vertex_count g) (edge_given g.edges i)
  unfolding clauses
  good_edge i h =
      let e : Edge = edge_given g.edges i in
      let ok : edge_good (node_count g) (vertex_count g) g.edges i ≡ true
      = all_at (edge_good (node_count g) (vertex_count g) g.edges) i (edge_count g) h (holds 6) in
      let tests : List Bool
      = ltb e.from (node_count g)
      ∷ ltb e.to (node_count g)
      ∷ leb e.vertices 0xffff
      ∷ leb e.class 0xff
      ∷ leb e.flags 0xff
      ∷ leb e.group 0xffff
      ∷ leb (e.first_vertex + e.vertices) (vertex_count g)
      ∷ [] in
      record {
        from = ltb-true e.from (node_count g) (clause 0 tests ok);
        to = ltb-true e.to (node_count g) (clause 1 tests ok);
        count = leb-true e.vertices 0xffff (clause 2 tests ok);
        class = leb-true e.class 0xff (clause 3 tests ok);
        flags = leb-true e.flags 0xff (clause 4 tests ok);
        group = leb-true e.group 0xffff (clause 5 tests ok);
        within = leb-true (e.first_vertex + e.vertices) (vertex_count g) (clause 6 tests ok);
      }

  -- two adjacency entries for each edge
  pub good_entries : first_entry g.edges (node_count g) ≡ edge_count g * 2
  good_entries = entries_two g.edges (node_count g) (λ (i : ℕ) (h : i < edge_count g). ((good_edge i h).from, (good_edge i h).to))
