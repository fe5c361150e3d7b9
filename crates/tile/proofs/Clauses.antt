-- `parse` by its clauses: one that fails refuses the tile. The first three stand together as the code tests them, and so do the two about nodes.
use Prim.Native.Nat.{ℕ}
use mathlib.Core.Path.{◌≡◌, refl, sym}
use mathlib.Core.Bool.{Bool, true, false, ◌&&◌}
use mathlib.Core.List.{List, [], ◌∷◌}
use lib.ListN.{get_or}
use Rattle.pack.specs.Sector.{all_of}
use Rattle.pack.specs.declared.TileKey.{TileKey}
use Rattle.std.specs.Prelude.{Err}
use Rattle.refusal.specs.declared.Refusal.{Refusal}
use Rattle.tile.specs.Parse.{accepts, parse, clauses, is_long, is_magic, is_version, is_sum, is_key, is_length, has_lon, nodes_good, edges_good, entries_good, nodes_ordered}
use Rattle.tile.proofs.Laws.{broken}

first_three : (a b d rest : Bool) → (a && (b && (d && rest))) ≡ ((a && (b && d)) && rest)
first_three true true d rest = refl
first_three true false d rest = refl
first_three false b d rest = refl

module _ (bs : List ℕ) (key : TileKey) (size : ℕ) where
  pub refused_by : (k : ℕ) → get_or (clauses bs key size) k true ≡ false → Err Refusal.Corrupt ≡ parse bs key size
  unfolding parse accepts
  refused_by k e = rw (broken k (clauses bs key size) e)

  pub head_first : accepts bs key size
      ≡ ((is_long bs && (is_magic bs && is_version bs))
      && all_of (is_sum bs ∷ is_key bs key ∷ is_length bs ∷ has_lon bs ∷ nodes_good bs size ∷ edges_good bs ∷ entries_good bs ∷ nodes_ordered bs ∷ []))
  unfolding accepts
  head_first = first_three (is_long bs) (is_magic bs) (is_version bs) _

  -- one pass over the nodes tests both
  pub refused_by_nodes : (nodes_good bs size && nodes_ordered bs) ≡ false → Err Refusal.Corrupt ≡ parse bs key size
  refused_by_nodes e = go (nodes_good bs size) refl
    where
      go : (good : Bool) → nodes_good bs size ≡ good → Err Refusal.Corrupt ≡ parse bs key size
      go true q = refused_by 10 (rw q at e)
      go false q = refused_by 7 q

  -- document 02, request 7: whatever else a tile holds, nodes out of order refuse it
  pub unordered_refused : nodes_ordered bs ≡ false → parse bs key size ≡ Err Refusal.Corrupt
  unordered_refused e = sym (refused_by 10 e)
