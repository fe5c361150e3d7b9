-- What a view rests on: the view of accepted bytes has the head that `tile::parse` answered, and the view of a run that the cache's lookup answered is
-- one of bytes that `tile::parse` accepts for its key. Then what `node_at` finds: of any bytes, a node exactly if they are a tile of that key and one
-- stands at that place. About the definitions alone.
use Prim.Native.Nat.{ℕ, ◌<◌}
use mathlib.Core.Bool.{Bool, true, false, ◌&&◌}
use mathlib.Core.List.{List}
use mathlib.Core.Path.{◌≡◌, refl, sym, ap, ◌∙◌}
use native.Mathlib.Omega.{arith}
use denote.Ref.{Bor}
use Rattle.std.specs.Prelude.{Some, Result, Ok, Err}
use Rattle.refusal.specs.declared.Refusal.{Refusal}
use Rattle.pack.specs.declared.TileKey.{TileKey}
use Rattle.tile.specs.Layout.{nodes_of, node_of}
use Rattle.tile.specs.Parse.{parse, accepts}
use Rattle.tile.specs.Readers as Readers
use Rattle.tile.specs.Readers.{is_there}
use Rattle.tile.specs.declared.Head.{Head}
use Rattle.tile.proofs.Search.{node_at_there, node_at_exact}
use Rattle.tile.proofs.Within.{parse-accepts, parse_refuses}
use Rattle.cache.specs.Lookups.{run_bytes, passes, len_at, lands_on, got, got_at, got_ready}
use Rattle.cache.specs.declared.Cache.{Cache}
use Rattle.cache.specs.declared.Lookup.TheVariants as Lookup
use Rattle.cache.specs.declared.look.Landing.{Landing}
use Rattle.cache.proofs.LookLaws.{passes_accepted}
use Rattle.view.specs.Views.{view_of, node_at_in, node_at, is_at}

pub view_parsed : (bs : Bor (List ℕ)) (key : TileKey) (size : ℕ) (h : Head) → parse bs.now key size ≡ Ok h → view_of bs ≡ record { bytes = bs; head = h }
view_parsed bs key size h e = λ i. record { bytes = bs; head = sym (parse-accepts bs.now key size h e).1 i }

module _ (arena : List ℕ) (size : ℕ) (c : Cache) (key : TileKey) (first len : ℕ) where
  ready_passes : (ok : Bool) (i : ℕ) → passes arena i (len_at c i) key size ≡ ok → (got_ready ok c i).answer ≡ Ok (Lookup.Ready first len) → passes arena first len key size ≡ true
  ready_passes true i p e =
      let a : first ≡ i = cc in
      let b : len ≡ len_at c i = cc in
      ap (λ (n : ℕ). passes arena first n key size) b ∙ (ap (λ (n : ℕ). passes arena n (len_at c i) key size) a ∙ p)
  ready_passes false i p e = let z : ◌≡◌ {A = ℕ} 0 1 = cc in absurd (omega arith)

  lands_passes : (l : Landing) → (got_at l c arena size key).answer ≡ Ok (Lookup.Ready first len) → passes arena first len key size ≡ true
  lands_passes Landing.Missing e = let z : ◌≡◌ {A = ℕ} 0 1 = cc in absurd (omega arith)
  lands_passes Landing.Nothing e = let z : ◌≡◌ {A = ℕ} 0 1 = cc in absurd (omega arith)
  lands_passes (Landing.At i) e = ready_passes (passes arena i (len_at c i) key size) i refl e

  pub ready_accepted : (got c arena size key).answer ≡ Ok (Lookup.Ready first len) → accepts (run_bytes arena first len) key size ≡ true
  unfolding got
  ready_accepted e = passes_accepted arena first len key size (lands_passes (lands_on c key) e)

-- ---- node_at

module _ (bs : List ℕ) (key : TileKey) (size x y : ℕ) where
  -- a node is found exactly if the bytes are a tile of that key and one stands at that place
  pub found_exactly : is_at (node_at bs key size x y) ≡ (accepts bs key size && is_there bs x y)
  found_exactly = go (parse bs key size) refl
    where
      go : (p : Result Head Refusal) → parse bs key size ≡ p → is_at (node_at_in p bs x y) ≡ (accepts bs key size && is_there bs x y)
      go (Ok h) e =
          let ok : accepts bs key size ≡ true = (parse-accepts bs key size h e).0 in
          rw ok (node_at_exact bs key size ok x y)
      go (Err n) e = rw (parse_refuses bs key size n e).0

  -- what is found stands there
  pub found_stands : (i : ℕ) → node_at bs key size x y ≡ Ok (Some i) → (i < nodes_of bs) × (((node_of bs i).x ≡ x) × ((node_of bs i).y ≡ y))
  found_stands i e = go (parse bs key size) e
    where
      go : (p : Result Head Refusal) → node_at_in p bs x y ≡ Ok (Some i) → (i < nodes_of bs) × (((node_of bs i).x ≡ x) × ((node_of bs i).y ≡ y))
      go (Ok h) r = let found : Readers.node_at bs x y ≡ Some i = cc in node_at_there bs x y i found
      go (Err n) r = absurd cc
