-- What the pack writer's steps mean, one by one. They restate private code; what the writer promises stands in
-- PackWritten. `start_of` and `numbered` are also terms of the promise of crate written_lookups.
use Rattle.std.specs.Prelude.{ℕ, zero, suc, ◌+◌, ◌*◌, ◌%◌, cond, List, [], ◌∷◌, ◌++◌, eqb, ltb, length, take, drop, get_or}
use Rattle.pack.specs.declared.TileKey.{TileKey}
use Rattle.writer.specs.declared.Grid.{Grid}
use Rattle.writer.specs.Fields.{little_endian}
use Rattle.writer.specs.PackWritten as PackWritten
use Rattle.writer.specs.PackWritten.{GivenPack, cut, sum_of, key_in, same_key, tile_of, key_at, tile_at, tiles_below, data_start}

-- the grid as one record
abbrev pub given : Grid → List ℕ → List ℕ → GivenPack
given grid tiles lengths = PackWritten.given grid.south grid.west grid.size grid.rows grid.cols tiles lengths

-- ---- the tiles by number, as they were given

-- where tile i starts
unfoldable pub start_of : List ℕ → ℕ → ℕ
start_of ns i = sum_of (take i ns)

abbrev pub numbered : List ℕ → List ℕ → ℕ → List ℕ
numbered ns bs i = take (get_or ns i 0) (drop (start_of ns i) bs)

-- the tiles from number i on
unfoldable pub tiles_from : List ℕ → List ℕ → ℕ → List (List ℕ)
tiles_from ns bs i = cut (drop i ns) (drop (start_of ns i) bs)

-- a key as a number that rises in row order
abbrev pub rank : TileKey → ℕ
rank key = key.row * 0x1_0000 + key.col

-- the place of a key's mark
unfoldable pub slot : ℕ → TileKey → ℕ
slot cols key = (key.row * cols + key.col) % 0x4_0000

-- where the tile of a key starts, of tiles whose bytes start at `at`; 0 where there is none
unfoldable pub source_of : List ℕ → List ℕ → ℕ → TileKey → ℕ
source_of [] bs at key = 0
source_of (n ∷ ns) bs at key = cond (same_key (key_in (take n bs)) key) at (source_of ns (drop n bs) (at + n) key)

-- ---- the directory on its way

-- an entry's eight bytes
abbrev pub entry_bytes : ℕ → ℕ → List ℕ
entry_bytes offset long = little_endian 4 offset ++ little_endian 4 long

-- the entries of the places below n, by offset and length of each
unfoldable pub entries : (ℕ → ℕ) → (ℕ → ℕ) → ℕ → List ℕ
entries offset long zero = []
entries offset long (suc n) = entries offset long n ++ entry_bytes (offset n) (long n)

-- at first an entry's offset is where its tile starts among the bytes given; here of the tiles from number i on
unfoldable pub source : GivenPack → ℕ → ℕ → ℕ
source g i p = source_of (drop i g.lengths) (drop (start_of g.lengths i) g.tiles) (start_of g.lengths i) (key_at g p)

unfoldable pub long : GivenPack → ℕ → ℕ → ℕ
long g i p = length (tile_of (tiles_from g.lengths g.tiles i) (key_at g p))

-- in the end it is where the tile stands in the pack, 0 without a tile
abbrev pub offset_of : ℕ → ℕ → ℕ
offset_of at n = cond (eqb n 0) 0 at

unfoldable pub offset : GivenPack → ℕ → ℕ
offset g p = offset_of (data_start g + length (tiles_below g p)) (length (tile_at g p))

-- and in between, where the places below n are done
unfoldable pub offset_at : GivenPack → ℕ → ℕ → ℕ
offset_at g n p = cond (ltb p n) (offset g p) (source g 0 p)
