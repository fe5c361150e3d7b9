-- Looking up directly in the pack: document 01, "Looking up directly in the pack", in its order, knowing no cache; and a lookup of the
-- cache in the same terms, bytes and no page. A pack is its bytes; the header is the pack's, parsed.
use Rattle.std.specs.Prelude.{Option, Some, None, Result, Ok, Err}
use Rattle.refusal.specs.declared.Refusal.{Refusal}
use Rattle.std.specs.Prelude.{◌≡◌, ℕ, ◌+◌, Bool, true, false, cond, ◌||◌, List, [], ◌∷◌, length, take, drop, ◌==◌, nat_le, nat_lt}
use Rattle.pack.specs.Grid.{in_grid, entry_of, locate_of}
use Rattle.pack.specs.declared.TileKey.{TileKey}
use Rattle.pack.specs.declared.Header.{Header}
use Rattle.cache.specs.declared.Slot.{Slot}
use Rattle.cache.specs.Runs.{span, slot_at}
use Rattle.tile.specs.Parse.{accepts}
use Rattle.cache.specs.declared.Cache.{Cache}
use Rattle.cache.specs.declared.look.Landing.{Landing}
use Rattle.cache.specs.Lookups.{lands_on, run_bytes, passes, got}

-- a lookup's result: the tile's bytes; no tile there; not loaded, or no answer; a ready run that no longer passes (the late 12)
pub data Look : Type 0 where
  ready : List ℕ → Look
  missing : Look
  absent : Look
  stale : Look

-- ---- in the pack

-- the tile's bytes, read where its entry says: no answer where they pass the pack's end, missing where `Tile::parse` refuses them
abbrev pub direct_tile : List ℕ → Header → TileKey → ℕ → ℕ → Look
direct_tile P h key offset len =
    cond (nat_le (offset + len) (length P))
    (cond (accepts (take len (drop offset P)) key h.tile) (ready (take len (drop offset P))) missing)
    absent

-- by the entry: length 0 is missing; a bad entry has no answer; a tile too large for the cache or for n pages is missing
abbrev pub direct_at : Result (Option (ℕ × ℕ)) Refusal → List ℕ → Header → ℕ → TileKey → Look
direct_at (Ok None) P h n key = missing
direct_at (Err e) P h n key = absent
direct_at (Ok (Some (offset, len))) P h n key = cond (nat_lt 49152 len || nat_lt n (span len)) missing (direct_tile P h key offset len)

-- the entry, where the pack has it
abbrev pub direct_entry : List ℕ → Header → ℕ → TileKey → Look
direct_entry P h n key =
    cond (nat_le (entry_of h key + 8) (length P)) (direct_at (locate_of h (take 8 (drop (entry_of h key) P))) P h n key) absent

-- with n pages: no pages, or a key outside the grid, is missing
unfoldable pub direct : List ℕ → Header → ℕ → TileKey → Look
direct P h n key = cond (n == 0) missing (cond (in_grid h key) (direct_entry P h n key) missing)

-- ---- in the cache

abbrev pub look_run : List ℕ → ℕ → ℕ → TileKey → ℕ → Look
look_run arena first len key size = cond (passes arena first len key size) (ready (run_bytes arena first len)) stale

abbrev pub look_at : Landing → List Slot → List ℕ → ℕ → TileKey → Look
look_at Landing.Missing slots arena size key = missing
look_at Landing.Nothing slots arena size key = absent
look_at (Landing.At i) slots arena size key = look_run arena i (slot_at slots i).len key size

-- what `get` answers, as bytes
unfoldable pub look : Cache → List ℕ → ℕ → TileKey → Look
look c arena size key = look_at (lands_on c key) c.pages.slots arena size key

-- ---- many lookups

-- what the lookups of a list of keys leave, one after another: clock and ages of the tiles that were found
unfoldable pub looked : Cache → List ℕ → ℕ → List TileKey → Cache
looked c arena size [] = c
looked c arena size (key ∷ keys) = looked (got c arena size key).cache arena size keys

-- two states differ at most in clock and ages
pub record Aged (c d : Cache) : Type 0 where
  pub slots : d.pages.slots ≡ c.pages.slots
  pub count : d.pages.count ≡ c.pages.count
  pub missing : d.missing ≡ c.missing
  pub loading : d.loading ≡ c.loading
  pub pending : d.pending ≡ c.pending
  pub loads : d.loads ≡ c.loads

-- a look of one state settles a key: it is neither absent nor stale
abbrev pub settled : Look → Bool
settled (ready bs) = true
settled missing = true
settled absent = false
settled stale = false

-- wherever the first settles a key, the second gives the same
abbrev pub Agree : (TileKey → Look) → (TileKey → Look) → Type 0
Agree one two = (key : TileKey) → settled (one key) ≡ true → two key ≡ one key
