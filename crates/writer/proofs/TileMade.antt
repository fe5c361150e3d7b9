-- A tile as the code makes it is the definition's: the parts put one after the other, then the CRC; and the writer's three answers.
use Prim.Native.Nat.{ℕ, ◌*◌, ◌≤◌, ◌<◌}
use mathlib.Core.Path.{◌≡◌, refl, sym, ap, ◌∙◌}
use mathlib.Core.Bool.{true, false}
use mathlib.Core.List.{List, ◌++◌}
use lib.ListN.{length, replicate, drop}
use borrow.Author.Tests.{le-leb, lt-leb}
use Rattle.crc.specs.Fcs.{crc32}
use Rattle.tile.specs.Offsets as At
use Rattle.pack.specs.declared.TileKey.{TileKey}
use Rattle.std.specs.Prelude.{Ok, Err}
use Rattle.refusal.specs.declared.Refusal.{Refusal}
use Rattle.writer.specs.Fields.{Field, put, puts, holding}
use Rattle.writer.specs.TileWritten.{Given, given, Written, tile, tile_good, tile_bytes, tile_fields, tile_length, node_count, edge_count, vertex_count, edges_base, vertices_base, field, fields_below, head_fields, node_fields, entry_field, edge_fields, vertex_fields}
use Rattle.writer.proofs.FieldLaws.{puts-append}

module _ (g : Given) where
  abbrev head : List Field
  head = head_fields g.key g.lon_um (node_count g) (edge_count g) (vertex_count g)

  abbrev nodes : List Field
  nodes = fields_below (node_fields g.nodes g.edges) (node_count g)

  abbrev entries : List Field
  entries = fields_below (entry_field (node_count g) g.edges) (edge_count g * 2)

  abbrev edges : List Field
  edges = fields_below (edge_fields (edges_base g) g.edges) (edge_count g)

  abbrev vertices : List Field
  vertices = fields_below (vertex_fields (vertices_base g) g.vertices) (vertex_count g)

  -- part by part
  abbrev pub parts : List ℕ → List ℕ
  parts bs = puts vertices (puts edges (puts entries (puts nodes (puts head bs))))

  pub parts_are : (bs : List ℕ) → parts bs ≡ puts (tile_fields g) bs
  unfolding tile_fields
  parts_are bs =
      sym
      (puts-append head (nodes ++ (entries ++ (edges ++ vertices))) bs
      ∙ puts-append nodes (entries ++ (edges ++ vertices)) (puts head bs)
      ∙ puts-append entries (edges ++ vertices) (puts nodes (puts head bs))
      ∙ puts-append edges vertices (puts entries (puts nodes (puts head bs))))

  pub summed : put (field At.sum_at 4 (crc32 (parts (replicate (tile_length g) 0)))) (parts (replicate (tile_length g) 0)) ≡ tile_bytes g
  unfolding tile_bytes holding
  summed = ap (λ (u : List ℕ). put (field At.sum_at 4 (crc32 u)) u) (parts_are (replicate (tile_length g) 0))

-- the bytes don't hang on the size
pub any_size : (key : TileKey) (size lon_um : ℕ) (ns es vs : List ℕ) → tile_bytes (given key 0 lon_um ns es vs) ≡ tile_bytes (given key size lon_um ns es vs)
unfolding tile_bytes tile_fields
any_size key size lon_um ns es vs = refl

-- ---- the answers

module _ (g : Given) (out : List ℕ) where
  abbrev refused : Refusal → Written
  refused e = record { answer = Err e; out = out }

  pub is_13 : tile_good g ≡ false → tile g out ≡ refused Refusal.BadValue
  unfolding tile
  is_13 bad = rw bad

  pub is_14 : tile_good g ≡ true → length out < tile_length g → tile g out ≡ refused Refusal.NoRoom
  unfolding tile
  is_14 ok short = rw (ok, lt-leb (tile_length g) (length out) short)

  pub is_written : tile_good g ≡ true → tile_length g ≤ length out
      → tile g out ≡ record { answer = Ok (tile_length g); out = tile_bytes g ++ drop (tile_length g) out }
  unfolding tile
  is_written ok fits = rw (ok, le-leb (tile_length g) (length out) fits)
