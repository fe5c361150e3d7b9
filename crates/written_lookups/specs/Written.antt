-- What is promised of a written pack to whoever looks a tile up in it: its first sector is accepted, and a direct lookup by that header finds every tile
-- given by its key, and no other. That the header gives back the grid is `pack_parses` of the writer's SectorReads.
use Rattle.std.specs.Prelude.{ℕ, ◌≤◌, ◌<◌, ◌≡◌, true, false, List, length, take, Result, IsOkAnd}
use Rattle.pack.specs.Sector.{parse}
use Rattle.pack.specs.declared.TileKey.{TileKey}
use Rattle.pack.specs.declared.Header.{Header}
use Rattle.refusal.specs.declared.Refusal.{Refusal}
use Rattle.cache.specs.Runs.{span}
use Rattle.cache.specs.Direct.{direct, ready, missing}
use Rattle.writer.specs.PackWritten.{GivenPack, pack_good, pack_bytes, total, tiles_of, key_in, has_key}
use Rattle.writer.specs.PackSteps.{numbered}

-- what `writer::pack` is given and answers with a length: numbers that fit their types, nothing that 13 or 14 refuses
pub record Made (g : GivenPack) : Type 0 where
  pub rows : g.rows < 0x1_0000
  pub cols : g.cols < 0x1_0000
  pub good : pack_good g ≡ true
  pub fits : total g ≤ 0xffff_ffff

-- the header that the pack's first sector has, where it is accepted
abbrev pub header_in : List ℕ → Result Header Refusal
header_in P = parse (take 512 P)

-- every tile given is found by its key, by a cache of pages enough for it
abbrev pub FindsEach : Type 0
FindsEach =
    (g : GivenPack) → Made g → (i pages : ℕ) → i < length g.lengths → span (length (numbered g.lengths g.tiles i)) ≤ pages
    → IsOkAnd (header_in (pack_bytes g)) (λ h. direct (pack_bytes g) h pages (key_in (numbered g.lengths g.tiles i)) ≡ ready (numbered g.lengths g.tiles i))

-- and no other is
abbrev pub FindsNoOther : Type 0
FindsNoOther =
    (g : GivenPack) → Made g → (key : TileKey) (pages : ℕ) → has_key key (tiles_of g) ≡ false
    → IsOkAnd (header_in (pack_bytes g)) (λ h. direct (pack_bytes g) h pages key ≡ missing)
