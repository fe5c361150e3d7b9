-- Laws of the direct lookup: bytes that it gives are accepted; by its entry, it looks for a tile at its place in the pack, or finds none
-- where the cache could hold none; and a tile there is ready or missing as its bytes are accepted or not.
use Prim.Native.Nat.{ℕ, ◌+◌, ◌<◌, ◌≤◌}
use mathlib.Core.Path.{◌≡◌, refl}
use mathlib.Core.Bool.{Bool, true, false, ◌||◌, cond}
use mathlib.Core.List.{List}
use borrow.Author.Tests.{lt-ltb, le-ltb, le-leb, eq-eqb, ne_eqb}
use lib.Dec.{eqb, ltb, leb}
use lib.ListN.{length, take, drop}
use Rattle.std.specs.Prelude.{Option, Some, None, Result, Ok, Err}
use Rattle.refusal.specs.declared.Refusal.{Refusal}
use Rattle.pack.specs.Grid.{in_grid, entry_of, locate_of}
use Rattle.pack.specs.declared.TileKey.{TileKey}
use Rattle.pack.specs.declared.Header.{Header}
use Rattle.cache.specs.Runs.{span}
use Rattle.tile.specs.Parse.{accepts}
use Rattle.cache.specs.Direct.{Look, ready, missing, absent, stale, direct_tile, direct_at, direct}

module _ (P : List ℕ) (h : Header) (n : ℕ) (key : TileKey) where
  -- ---- bytes that it gives are accepted

  abbrev Accepted : Look → Type 0
  Accepted (ready bs) = accepts bs key h.tile ≡ true
  Accepted missing = Unit
  Accepted absent = Unit
  Accepted stale = Unit

  tile_accepted : (offset len : ℕ) → Accepted (direct_tile P h key offset len)
  tile_accepted offset len = by (leb (offset + len) (length P)) (accepts (take len (drop offset P)) key h.tile) refl
    where
      by : (t u : Bool) → accepts (take len (drop offset P)) key h.tile ≡ u
          → Accepted (cond t (cond u (ready (take len (drop offset P))) missing) absent)
      by true true e = e
      by true false e = tt
      by false u e = tt

  at_accepted : (x : Result (Option (ℕ × ℕ)) Refusal) → Accepted (direct_at x P h n key)
  at_accepted (Ok None) = tt
  at_accepted (Err number) = tt
  at_accepted (Ok (Some (offset, len))) = by (ltb 49152 len || ltb n (span len))
    where
      by : (t : Bool) → Accepted (cond t missing (direct_tile P h key offset len))
      by true = tt
      by false = tile_accepted offset len

  accepted : Accepted (direct P h n key)
  unfolding direct
  accepted = by (eqb n 0) (in_grid h key) (leb (entry_of h key + 8) (length P))
    where
      by : (t u v : Bool) → Accepted (cond t missing (cond u (cond v (direct_at (locate_of h (take 8 (drop (entry_of h key) P))) P h n key) absent) missing))
      by true u v = tt
      by false false v = tt
      by false true false = tt
      by false true true = at_accepted (locate_of h (take 8 (drop (entry_of h key) P)))

  pub direct-ready : (bs : List ℕ) → direct P h n key ≡ ready bs → accepts bs key h.tile ≡ true
  direct-ready bs e = rw e at accepted

  -- ---- missing, with no pages

  pub direct_none : n ≡ 0 → direct P h n key ≡ missing
  unfolding direct
  direct_none e = rw (eq-eqb n 0 e)

  -- ---- by the entry

  pub direct_entry : (n ≡ 0 → ⊥) → in_grid h key ≡ true → entry_of h key + 8 ≤ length P
      → direct P h n key ≡ direct_at (locate_of h (take 8 (drop (entry_of h key) P))) P h n key
  unfolding direct
  direct_entry z g e = rw (ne_eqb n 0 z, g, le-leb (entry_of h key + 8) (length P) e)

  pub at_long : (offset len : ℕ) → 49152 < len → direct_at (Ok (Some (offset, len))) P h n key ≡ missing
  at_long offset len e = rw (lt-ltb 49152 len e)

  pub at_wide : (offset len : ℕ) → n < span len → direct_at (Ok (Some (offset, len))) P h n key ≡ missing
  at_wide offset len e = by (ltb 49152 len)
    where
      by : (t : Bool) → cond (t || ltb n (span len)) missing (direct_tile P h key offset len) ≡ missing
      by true = refl
      by false = rw (lt-ltb n (span len) e)

  pub at_tile : (offset len : ℕ) → len ≤ 49152 → span len ≤ n → direct_at (Ok (Some (offset, len))) P h n key ≡ direct_tile P h key offset len
  at_tile offset len e s = rw (le-ltb 49152 len e, le-ltb n (span len) s)

  -- ---- by the bytes

  module _ (offset len : ℕ) (within : offset + len ≤ length P) where
    pub tile_ready : accepts (take len (drop offset P)) key h.tile ≡ true → direct_tile P h key offset len ≡ ready (take len (drop offset P))
    tile_ready e = rw (le-leb (offset + len) (length P) within, e)

    pub tile_missing : accepts (take len (drop offset P)) key h.tile ≡ false → direct_tile P h key offset len ≡ missing
    tile_missing e = rw (le-leb (offset + len) (length P) within, e)
