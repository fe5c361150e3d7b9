-- The beginning of a load: `cache.rs`, load, from the tile's length on: its span, the victim, the victim's runs evicted, the new run
-- placed over it, not ready. With no victim nothing changes. That the tile is within MAX_TILE_BYTES is tested before.
use Rattle.std.specs.Prelude.{Option, Some, None}
use Rattle.std.specs.Prelude.{ℕ}
use Rattle.pack.specs.declared.TileKey.{TileKey}
use Rattle.cache.specs.declared.Pages.{Pages}
use Rattle.cache.specs.declared.begin.Begun.{Begun}
use Rattle.cache.specs.Runs.{span}
use Rattle.cache.specs.Evict.{evicted, placed}
use Rattle.cache.specs.Victim.{victim}

-- the run of a tile of len bytes in place of whatever touches its pages from s on
abbrev pub replaced : Pages → ℕ → TileKey → ℕ → Pages
replaced g s key len = placed (evicted (span len) s g) s key len

abbrev pub begun_at : Pages → TileKey → ℕ → Option ℕ → Begun
begun_at g key len None = record { pages = g; at = None }
begun_at g key len (Some s) = record { pages = replaced g s key len; at = Some s }

abbrev pub begun : Pages → TileKey → ℕ → Begun
begun g key len = begun_at g key len (victim g (span len))
