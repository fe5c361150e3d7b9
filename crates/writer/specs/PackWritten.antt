-- A pack made of a grid and finished tiles. The sector and the directory field by field at the offsets that the readers
-- use (crate pack, Offsets), the tiles behind them in row order without gaps, and which numbers refuse it.
use Rattle.std.specs.Prelude.{ℕ, zero, suc, ◌+◌, ◌*◌, ◌/◌, ◌%◌, Bool, true, false, ◌&&◌, not, cond, List, [], ◌∷◌, ◌++◌, eqb, leb, length, take, drop, ℤ, Ok, Err}
use Rattle.crc.specs.Fcs.{crc32}
use Rattle.pack.specs.declared.TileKey.{TileKey}
use Rattle.pack.specs.declared.Header.{Header}
use Rattle.pack.specs.Offsets as At
use Rattle.pack.specs.Sector.{all_of, is_tile_size, has_rows, has_cols, spans_rows, spans_cols}
use Rattle.pack.specs.Grid.{in_grid}
use Rattle.num.specs.Cast.{bits32}
use Rattle.tile.specs.Layout.{head_of}
use Rattle.tile.specs.Parse.{accepts}
use Rattle.refusal.specs.declared.Refusal.{Refusal}
use Rattle.writer.specs.Fields.{Field, put, holding}
use Rattle.writer.specs.TileWritten.{Written, field, fields_below}

-- ---- what is given: the grid as five numbers, and the tiles' bytes one after the other with the length of each

pub record GivenPack : Type 0 where
  pub south : ℤ
  pub west : ℤ
  pub size : ℕ
  pub rows : ℕ
  pub cols : ℕ
  pub tiles : List ℕ
  pub lengths : List ℕ

abbrev pub given : ℤ → ℤ → ℕ → ℕ → ℕ → List ℕ → List ℕ → GivenPack
given south west size rows cols tiles lengths =
    record { south = south; west = west; size = size; rows = rows; cols = cols; tiles = tiles; lengths = lengths }

-- the tiles, one by one
unfoldable pub cut : List ℕ → List ℕ → List (List ℕ)
cut [] bs = []
cut (n ∷ ns) bs = take n bs ∷ cut ns (drop n bs)

abbrev pub tiles_of : GivenPack → List (List ℕ)
tiles_of g = cut g.lengths g.tiles

unfoldable pub sum_of : List ℕ → ℕ
sum_of [] = 0
sum_of (n ∷ ns) = n + sum_of ns

-- the key that a tile's bytes name
abbrev pub key_in : List ℕ → TileKey
key_in bs = (head_of bs).key

abbrev pub same_key : TileKey → TileKey → Bool
same_key a b = eqb a.row b.row && eqb a.col b.col

-- the tile of a key; none has no bytes
unfoldable pub tile_of : List (List ℕ) → TileKey → List ℕ
tile_of [] key = []
tile_of (bs ∷ ts) key = cond (same_key (key_in bs) key) bs (tile_of ts key)

-- ---- places of the grid in row order

abbrev pub places : GivenPack → ℕ
places g = g.rows * g.cols

abbrev pub key_at : GivenPack → ℕ → TileKey
key_at g p = record { row = p / g.cols; col = p % g.cols }

abbrev pub tile_at : GivenPack → ℕ → List ℕ
tile_at g p = tile_of (tiles_of g) (key_at g p)

-- the tiles of the places below n, without gaps
unfoldable pub tiles_below : GivenPack → ℕ → List ℕ
tiles_below g zero = []
tiles_below g (suc n) = tiles_below g n ++ tile_at g n

-- ---- where the parts stand: directory at 512, then the tiles

abbrev pub directory : ℕ
directory = 512

abbrev pub data_start : GivenPack → ℕ
data_start g = directory + places g * 8

-- where the last tile ends or, with none, at the data
abbrev pub total : GivenPack → ℕ
total g = data_start g + sum_of g.lengths

-- ---- the header that a reader finds: created time and attribution are zero

abbrev pub header_of : GivenPack → Header
header_of g = record {
  tile = g.size;
  south = g.south;
  west = g.west;
  rows = g.rows;
  cols = g.cols;
  directory = directory;
  «data» = data_start g;
  total = total g;
  tiles = length g.lengths;
  created = 0;
  attribution_offset = 0;
  attribution_len = 0;
}

-- ---- the sector: bytes without a field are zero

-- "VANA-TERRAIN" and the version
abbrev pub mark_fields : List Field
mark_fields =
    field At.magic_at 4 0x414e4156
    ∷ field (At.magic_at + 4) 4 0x5245542d
    ∷ field (At.magic_at + 8) 4 0x4e494152
    ∷ field At.version_at 2 2
    ∷ []

abbrev pub grid_fields : Header → List Field
grid_fields h =
    field At.tile_size_at 4 h.tile
    ∷ field At.south_at 4 (bits32 h.south)
    ∷ field At.west_at 4 (bits32 h.west)
    ∷ field At.rows_at 2 h.rows
    ∷ field At.cols_at 2 h.cols
    ∷ []

abbrev pub part_fields : Header → List Field
part_fields h =
    field At.directory_at 4 h.directory
    ∷ field At.data_at 4 h.«data»
    ∷ field At.total_at 4 h.total
    ∷ field At.tiles_at 4 h.tiles
    ∷ []

unfoldable pub sector_fields : Header → List Field
sector_fields h = mark_fields ++ (grid_fields h ++ part_fields h)

abbrev pub unsummed_sector : Header → List ℕ
unsummed_sector h = holding (sector_fields h) 512

unfoldable pub sector_bytes : Header → List ℕ
sector_bytes h = put (field At.sum_at 4 (crc32 (take 508 (unsummed_sector h)))) (unsummed_sector h)

-- ---- the directory: an entry without a tile is zero

unfoldable pub entry_fields : GivenPack → ℕ → List Field
entry_fields g p =
    cond (eqb (length (tile_at g p)) 0) []
    (field (p * 8 + At.offset_at) 4 (data_start g + length (tiles_below g p)) ∷ field (p * 8 + At.length_at) 4 (length (tile_at g p)) ∷ [])

unfoldable pub directory_bytes : GivenPack → List ℕ
directory_bytes g = holding (fields_below (entry_fields g) (places g)) (places g * 8)

-- ---- the pack

unfoldable pub pack_bytes : GivenPack → List ℕ
pack_bytes g = sector_bytes (header_of g) ++ (directory_bytes g ++ tiles_below g (places g))

-- ---- number 13: what a reader would refuse, a key given twice or outside the grid, nodes out of order, a tile over 49,152 bytes

-- the rules of a header that a grid can break; the others hold of every result that 14 doesn't refuse
abbrev pub grid_rules : GivenPack → List Bool
grid_rules g = is_tile_size (header_of g) ∷ has_rows (header_of g) ∷ has_cols (header_of g) ∷ spans_rows (header_of g) ∷ spans_cols (header_of g) ∷ []

abbrev pub grid_good : GivenPack → Bool
grid_good g = all_of (grid_rules g)

abbrev pub tile_rules : GivenPack → List ℕ → List Bool
tile_rules g bs =
    leb (length bs) 49152
    ∷ accepts bs (key_in bs) g.size
    ∷ in_grid (header_of g) (key_in bs)
    ∷ []

abbrev pub tile_is_good : GivenPack → List ℕ → Bool
tile_is_good g bs = all_of (tile_rules g bs)

unfoldable pub tiles_good : GivenPack → List (List ℕ) → Bool
tiles_good g [] = true
tiles_good g (bs ∷ ts) = tile_is_good g bs && tiles_good g ts

-- whether a tile of the list has this key
unfoldable pub has_key : TileKey → List (List ℕ) → Bool
has_key key [] = false
has_key key (bs ∷ ts) = cond (same_key (key_in bs) key) true (has_key key ts)

unfoldable pub no_key_twice : List (List ℕ) → Bool
no_key_twice [] = true
no_key_twice (bs ∷ ts) = not (has_key (key_in bs) ts) && no_key_twice ts

-- the lengths cut the bytes with none left over
abbrev pub is_whole : GivenPack → Bool
is_whole g = eqb (sum_of g.lengths) (length g.tiles)

abbrev pub pack_rules : GivenPack → List Bool
pack_rules g = grid_good g ∷ is_whole g ∷ tiles_good g (tiles_of g) ∷ no_key_twice (tiles_of g) ∷ []

unfoldable pub pack_good : GivenPack → Bool
pack_good g = all_of (pack_rules g)

-- ---- the writer: 13, then 14 where the total passes 32 bits or the output is too short; both leave it as it was, and what lies past the pack stays

unfoldable pub pack : GivenPack → List ℕ → Written
pack g out =
    cond (pack_good g)
    (cond (leb (total g) 0xffff_ffff && leb (total g) (length out))
    (record { answer = Ok (total g); out = pack_bytes g ++ drop (total g) out })
    (record { answer = Err Refusal.NoRoom; out = out }))
    (record { answer = Err Refusal.BadValue; out = out })
