-- What the cache's lookups read, where it stands among the words: a run's length (`len_at`, `len_past`), a page's age (`age_at`), and the key of the tile that is ready on a page (`ready_key_lem`).
-- So a page taken out of the words is the page taken out of the cache that they hold (`page_taken`), and so is a place of the ring (`place_taken`).
use Rattle.std.specs.Prelude.{Option, Some, None}
use Rattle.pack.specs.declared.TileKey.{TileKey}
use Rattle.std.proofs.Common.{◌≡◌, ℕ, ◌+◌, ◌*◌, ◌/◌, ◌%◌, ◌<◌, ◌≤◌, Bool, true, false, cond, ◌&&◌, eqb, List, get_or, set, refl, ap, ◌∙◌, add-zero, arith}
use Rattle.cache.specs.Ages.{row_of, col_of, ready_key, page_in, place_in}
use Rattle.cache.specs.Keys.{key_at}
use Rattle.cache.specs.Runs.{slot_at}
use Rattle.cache.specs.Stands.{Sized}
use Rattle.words.specs.Words.{from, key_of, slot_by, pages_of, ring_of, cache_of, shared_of, engine_of}
use Rattle.words.proofs.ArrayLaws.{length-table}
use Rattle.words.proofs.PagesLaws.{slots_size, slot_at_lem, slot_past, place_at, both_bits}
use Rattle.words.proofs.TripLaws.{table_at}

-- the key of a word, or none
abbrev pub key_if : Bool → ℕ → Option TileKey
key_if t n = cond t (Some (key_of n)) None

ready_key_lem : (w : ℕ → ℕ) → ready_key (slot_by w) ≡ key_if (eqb (w 0 % 4) 3) (w 1)
ready_key_lem w = by (eqb (w 0 / 2 % 2) 1) (eqb (w 0 % 2) 1) ∙ ap (λ (t : Bool). key_if t (w 1)) (both_bits (w 0))
  where
    by : (ready has : Bool) → cond ready (key_if has (w 1)) None ≡ key_if (ready && has) (w 1)
    by true has = refl
    by false has = refl

module _ (ws : List ℕ) where
  pub len_at : (i : ℕ) → i < 96 → (slot_at (pages_of ws 15).slots i).len ≡ get_or ws (17 + 3 * i) 0 % 65536
  len_at i h = let next : 15 + 3 * i + 2 ≡ 17 + 3 * i = omega arith in rw (slot_at_lem ws 15 i h, next)

  pub len_past : (i : ℕ) → 96 ≤ i → (slot_at (pages_of ws 15).slots i).len ≡ 0
  len_past i h = rw (slot_past ws 15 i h)

  age_at : (i : ℕ) → i < 96 → get_or (pages_of ws 15).used i 0 ≡ get_or ws (303 + i) 0
  unfolding pages_of
  age_at i h = table_at (λ (j : ℕ). get_or ws (303 + j) 0) 0 96 i h

  -- ---- taken out, with row and column of the key where there is one

  module _ (looks : List ℕ) (i : ℕ) (t : Bool) {row col : ℕ} where
    pub page_taken : i < 96 → eqb (get_or ws (15 + 3 * i) 0 % 4) 3 ≡ t
        → row ≡ row_of (key_if t (get_or ws (15 + 3 * i + 1) 0))
        → col ≡ col_of (key_if t (get_or ws (15 + 3 * i + 1) 0))
        → set (set (set (set looks i (get_or ws (303 + i) 0)) (192 + i) row) (288 + i) col) (384 + i) (get_or ws (15 + 3 * i + 2) 0 % 65536)
        ≡ page_in looks i (get_or (pages_of ws 15).used i 0) (slot_at (pages_of ws 15).slots i)
    page_taken h e r k = rw (age_at i h, slot_at_lem ws 15 i h, ready_key_lem (from ws (15 + 3 * i)), add-zero (15 + 3 * i), e, r, k)

    pub place_taken : i < 64 → eqb (get_or ws (401 + 2 * i) 0) 1 ≡ t
        → row ≡ row_of (key_if t (get_or ws (401 + 2 * i + 1) 0))
        → col ≡ col_of (key_if t (get_or ws (401 + 2 * i + 1) 0))
        → set (set looks (480 + i) row) (544 + i) col ≡ place_in looks i (key_at (ring_of ws 401) i)
    place_taken h e r k = rw (place_at ws 401 i h, add-zero (401 + 2 * i), e, r, k)

  -- ---- the arrays have the lengths that their types say

  pub sized : Sized (cache_of ws 15)
  unfolding cache_of pages_of
  sized = record { slots = slots_size ws 15; used = length-table (λ (j : ℕ). get_or ws (303 + j) 0) 96 }

  pub engine_sized : Sized (engine_of ws).shared.cache
  unfolding engine_of shared_of
  engine_sized = sized
