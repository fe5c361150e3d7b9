-- The keys around a fix lie in the grid (`near_in_grid`). The idea: a key is added only where `checked_of` answers it, and that answers only keys
-- of the grid.
use Prim.Native.Nat.{ℕ, zero, suc, ◌+◌, ◌<◌, ◌≤◌}
use mathlib.Core.Path.{◌≡◌, refl}
use mathlib.Core.Bool.{Bool, true, false, cond}
use mathlib.Core.List.{List}
use mathlib.Core.Logic.{⊎_elim}
use lib.Dec.{leb}
use lib.IntN.{ℤ}
use lib.ListN.{length, get_or, set, replicate}
use lib.Seq.{set_out, get_or-set_same, get_or-set_other}
use Rattle.std.specs.Prelude.{Option, Some, None}
use Rattle.pack.specs.Grid.{in_grid, checked_of, key_of}
use Rattle.pack.specs.declared.Header.{Header}
use Rattle.pack.specs.declared.TileKey.{TileKey}
use Rattle.pack.proofs.Laws.{checked_in_grid}
use Rattle.cache.proofs.Below.{below_or, same_or}
use Rattle.geo.specs.declared.Point.{Point}
use Rattle.matcher.specs.declared.NearKey.{NearKey}
use Rattle.matcher.specs.declared.NearKeys.{NearKeys}
use Rattle.matcher.specs.Near.{no_place, no_keys, key_at, has, push, add_key, add, around, near_by, near_of}

module _ (h : Header) where
  -- a key of the grid, or none
  abbrev pub InGrid : Option TileKey → Type 0
  InGrid None = Unit
  InGrid (Some key) = in_grid h key ≡ true

  abbrev pub AllIn : NearKeys → Type 0
  AllIn n = (i : ℕ) → InGrid (key_at n i)

  free_in : (n i : ℕ) → InGrid (get_or (replicate n no_place) i no_place).key
  free_in zero i = tt
  free_in (suc n) zero = tt
  free_in (suc n) (suc i) = free_in n i

  -- whether or not the place is there
  set_in : (keys : List NearKey) (at : ℕ) (key : TileKey) → ((i : ℕ) → InGrid (get_or keys i no_place).key) → in_grid h key ≡ true
      → (i : ℕ) → InGrid (get_or (set keys at (record { key = Some key })) i no_place).key
  set_in keys at key all new i =
      ⊎_elim
      (λ (e : i ≡ at). rw e
      (⊎_elim
      (λ (below : at < length keys). rw (get_or-set_same keys at (record { key = Some key }) no_place below) new)
      (λ (past : length keys ≤ at). rw (set_out keys at (record { key = Some key }) past) (all at))
      (below_or at (length keys))))
      (λ (e : i ≡ at → ⊥). rw (get_or-set_other keys at i (record { key = Some key }) no_place e) (all i))
      (same_or i at)

  push_in : (n : NearKeys) (key : TileKey) → AllIn n → in_grid h key ≡ true → AllIn (push n key)
  unfolding push
  push_in n key all new = by (leb 4 n.len)
    where
      by : (t : Bool) → AllIn (cond t n (record { keys = set n.keys n.len (record { key = Some key }); len = n.len + 1 }))
      by true = all
      by false = set_in n.keys n.len key all new

  add_by : (n : NearKeys) (row col : ℤ) → AllIn n → (x : Option TileKey) → checked_of h row col ≡ x → AllIn (add_key n x)
  add_by n row col all (Some key) e = by (has n key)
    where
      by : (t : Bool) → AllIn (cond t n (push n key))
      by true = all
      by false = push_in n key all (checked_in_grid h row col e)
  add_by n row col all None e = all

  add_in : (n : NearKeys) (row col : ℤ) → AllIn n → AllIn (add n h row col)
  unfolding add
  add_in n row col all = add_by n row col all (checked_of h row col) refl

  near_by_lem : (x : Option TileKey) (p : Point) → AllIn (near_by x h p)
  unfolding around
  near_by_lem (Some key) p = add_in _ _ _ (add_in _ _ _ (add_in _ _ _ (add_in no_keys _ _ (free_in 4))))
  near_by_lem None p = free_in 4

  pub near_in_grid : (p : Point) → AllIn (near_of h p)
  unfolding near_of
  near_in_grid p = near_by_lem (key_of h p.lat p.lon) p
