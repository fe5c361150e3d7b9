-- When the numbers that the lookups of a call go by (`Ages`) stand for the cache that they were taken out of, and for the keys found since: what
-- relates private code to the definitions, for a proof's sake.
use Rattle.std.specs.Prelude.{◌≡◌, ℕ, ◌+◌, ◌<◌, true, List, length, slice_index, slice_index_or}
use Rattle.pack.specs.declared.TileKey.{TileKey}
use Rattle.cache.specs.declared.Cache.{Cache}
use Rattle.cache.specs.declared.look.Landing.TheVariants as Landing
use Rattle.cache.specs.Runs.{slot_at}
use Rattle.cache.specs.Keys.{key_at, is_ready}
use Rattle.cache.specs.Lookups.{lands_on, passes, len_at}
use Rattle.cache.specs.Direct.{looked}
use Rattle.cache.specs.Ages.{row_of, col_of, ready_key, most, aged}

-- the arrays of a cache have the lengths that their types say
pub record Sized (c : Cache) : Type 0 where
  pub slots : length c.pages.slots ≡ 96
  pub used : length c.pages.used ≡ 96

-- the numbers that no lookup changes are those of the cache
pub record Taken (c : Cache) (looks : List ℕ) : Type 0 where
  pub long : length looks ≡ 611
  pub rows : (i : ℕ) → i < 96 → slice_index looks (192 + i) ≡ row_of (ready_key (slot_at c.pages.slots i))
  pub cols : (i : ℕ) → i < 96 → slice_index looks (288 + i) ≡ col_of (ready_key (slot_at c.pages.slots i))
  pub lens : (i : ℕ) → i < 96 → slice_index looks (384 + i) ≡ len_at c i
  pub ring_rows : (i : ℕ) → i < 64 → slice_index looks (480 + i) ≡ row_of (key_at c.missing i)
  pub ring_cols : (i : ℕ) → i < 64 → slice_index looks (544 + i) ≡ col_of (key_at c.missing i)
  pub count : slice_index_or looks 609 0 ≡ most c.pages.count

-- the key lands on the run from page i on, which passes for it
pub record Checked (c : Cache) (arena : List ℕ) (size : ℕ) (i : ℕ) (key : TileKey) : Type 0 where
  pub lands : lands_on c key ≡ Landing.At i
  pub passed : passes arena i (len_at c i) key size ≡ true

-- on every marked run the key that is ready there lands, and it passes for that key
abbrev pub Sound : Cache → List ℕ → ℕ → List ℕ → Type 0
Sound c arena size looks =
    (i : ℕ) (key : TileKey) → i < 96 → slice_index looks (96 + i) ≡ 1 → is_ready key (slot_at c.pages.slots i) ≡ true → Checked c arena size i key

pub record Stands (c : Cache) (arena : List ℕ) (size : ℕ) (looks : List ℕ) (keys : List TileKey) : Type 0 where
  pub sized : Sized c
  pub taken : Taken c looks
  pub sound : Sound c arena size looks
  pub same : aged c looks ≡ looked c arena size keys
