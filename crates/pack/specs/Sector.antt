-- The pack's header: document 01, "pack.rs". A sector of 512 bytes, its fields by their offsets, and the rules as a list of named clauses.
-- The clauses over a parsed header are also what number 12 tests of a header that is given.
use Rattle.std.specs.Prelude.{ℕ, ◌+◌, ◌*◌, Bool, true, ◌&&◌, cond, List, [], ◌∷◌, leb, ltb, eqb, ℤ, pos, negsuc, ◌+ℤ◌, take, Result, Ok, Err}
use Rattle.std.specs.Int.Signed.{le_z}
use Rattle.refusal.specs.declared.Refusal.TheVariants as Refusal
use Rattle.crc.specs.Fcs.{crc32}
use Rattle.pack.specs.Offsets as At
use Rattle.pack.specs.Bytes.{u16_at, u32_at, i32_at, u64_at}
use Rattle.pack.specs.declared.Header.{Header}
use Rattle.refusal.specs.declared.Refusal.{Refusal}

abbrev pub all_of : List Bool → Bool
all_of [] = true
all_of (b ∷ bs) = b && all_of bs

-- ---- the sector's fields

abbrev pub header_at : List ℕ → Header
header_at s = record {
  tile = u32_at s At.tile_size_at;
  south = i32_at s At.south_at;
  west = i32_at s At.west_at;
  rows = u16_at s At.rows_at;
  cols = u16_at s At.cols_at;
  directory = u32_at s At.directory_at;
  «data» = u32_at s At.data_at;
  total = u32_at s At.total_at;
  tiles = u32_at s At.tiles_at;
  created = u64_at s At.created_at;
  attribution_offset = u32_at s At.attribution_offset_at;
  attribution_len = u32_at s At.attribution_len_at;
}

-- CRC of the first 508 bytes at 508
abbrev pub is_sum : List ℕ → Bool
is_sum s = eqb (crc32 (take At.sum_at s)) (u32_at s At.sum_at)

-- "VANA-TERRAIN" and four zeros, as four numbers: "VANA", "-TER", "RAIN" and 0, the low byte first
abbrev pub is_magic : List ℕ → Bool
is_magic s =
    all_of (eqb (u32_at s At.magic_at) 0x414e4156
    ∷ eqb (u32_at s (At.magic_at + 4)) 0x5245542d
    ∷ eqb (u32_at s (At.magic_at + 8)) 0x4e494152
    ∷ eqb (u32_at s (At.magic_at + 12)) 0
    ∷ [])

abbrev pub is_version : List ℕ → Bool
is_version s = eqb (u16_at s At.version_at) 2

-- ---- the rules of a header

abbrev pub is_tile_size : Header → Bool
is_tile_size h = leb 1 h.tile && leb h.tile 65535

abbrev pub has_rows : Header → Bool
has_rows h = ltb 0 h.rows

abbrev pub has_cols : Header → Bool
has_cols h = ltb 0 h.cols

-- the grid lies between -360,000,000 and 360,000,000, ends allowed
abbrev pub spans : ℤ → ℕ → ℕ → Bool
spans from tiles size = le_z (negsuc 359999999) from && le_z (from +ℤ pos (tiles * size)) (pos 360000000)

abbrev pub spans_rows : Header → Bool
spans_rows h = spans h.south h.rows h.tile

abbrev pub spans_cols : Header → Bool
spans_cols h = spans h.west h.cols h.tile

-- directory + 8 * rows * cols = data
abbrev pub is_directory : Header → Bool
is_directory h = eqb (h.directory + h.rows * h.cols * 8) h.«data»

abbrev pub is_data : Header → Bool
is_data h = leb h.«data» h.total

abbrev pub rules_of : Header → List Bool
rules_of h = is_tile_size h ∷ has_rows h ∷ has_cols h ∷ spans_rows h ∷ spans_cols h ∷ is_directory h ∷ is_data h ∷ []

-- what `Header::parse` and number 12 ask of a header
unfoldable pub rules : Header → Bool
rules h = all_of (rules_of h)

-- ---- parse

-- 4 for the CRC, then 3 for any other rule
unfoldable pub parse : List ℕ → Result Header Refusal
parse s =
    cond (is_sum s)
    (cond (all_of (is_magic s ∷ is_version s ∷ rules (header_at s) ∷ [])) (Ok (header_at s)) (Err Refusal.Unsupported))
    (Err Refusal.Corrupt)

-- the header that an answer of `parse` holds, which for a refused sector is one whose fields are all 0
abbrev pub no_header : Header
no_header = record {
  tile = 0;
  south = pos 0;
  west = pos 0;
  rows = 0;
  cols = 0;
  directory = 0;
  «data» = 0;
  total = 0;
  tiles = 0;
  created = 0;
  attribution_offset = 0;
  attribution_len = 0;
}

abbrev pub header_in : Result Header Refusal → Header
header_in (Ok h) = h
header_in (Err refusal) = no_header
