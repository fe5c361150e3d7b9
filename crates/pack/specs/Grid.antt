-- The grid of tiles and its directory: `pack.rs`, key, checked, origin, entry, locate, and reading a lent pack.
-- Each public function is refused with 12 where the header breaks a rule, then 8 for a point beyond 360 degrees, then 9 for a key outside the grid (document 01, "Refused").
use Rattle.std.specs.Prelude.{ℕ, ◌+◌, ◌*◌, ◌/◌, Bool, ◌&&◌, cond, List, leb, ltb, eqb, ℤ, pos, negsuc, ◌+ℤ◌, ◌-ℤ◌, length, Option, Some, None, Result, Ok, Err}
use Rattle.std.specs.Int.Signed.{lt_z, le_z}
use Rattle.pack.specs.Offsets as At
use Rattle.pack.specs.Bytes.{u32_at}
use Rattle.pack.specs.Sector.{rules}
use Rattle.pack.specs.declared.Header.{Header}
use Rattle.pack.specs.declared.TileKey.{TileKey}
use Rattle.pack.specs.declared.Corner.{Corner}
use Rattle.refusal.specs.declared.Refusal.{Refusal}

-- ---- points and keys

-- a point that is not refused with 8: each part within ±360,000,000
abbrev pub is_degrees : ℤ → Bool
is_degrees z = le_z (negsuc 359999999) z && le_z z (pos 360000000)

abbrev pub is_point : ℤ → ℤ → Bool
is_point lat lon = is_degrees lat && is_degrees lon

abbrev pub in_grid : Header → TileKey → Bool
in_grid h k = ltb k.row h.rows && ltb k.col h.cols

-- a row and a column that are in the grid
abbrev pub within : ℤ → ℕ → Bool
within z n = le_z (pos 0) z && lt_z z (pos n)

-- z as a number, where it is not negative
abbrev pub natural : ℤ → ℕ
natural (pos n) = n
natural (negsuc n) = 0

unfoldable pub checked_of : Header → ℤ → ℤ → Option TileKey
checked_of h row col =
    cond (within row h.rows && within col h.cols) (Some (record { row = natural row; col = natural col })) None

-- z divided by n and rounded down: negative where z is
abbrev pub floor_of : ℤ → ℕ → ℤ
floor_of (pos a) n = pos (a / n)
floor_of (negsuc a) n = negsuc (a / n)

-- the tile that holds a point; a size of 0 holds none
unfoldable pub key_of : Header → ℤ → ℤ → Option TileKey
key_of h lat lon =
    cond (eqb h.tile 0) None (checked_of h (floor_of (lat -ℤ h.south) h.tile) (floor_of (lon -ℤ h.west) h.tile))

-- ---- corners and entries

-- held to 32 bits from above, which a grid within its rules never reaches
abbrev pub held : ℤ → ℤ
held z = cond (lt_z (pos 0x7fff_ffff) z) (pos 0x7fff_ffff) z

-- the south-west corner of a tile
unfoldable pub corner_of : Header → TileKey → Corner
corner_of h k = record { south = held (h.south +ℤ pos (k.row * h.tile)); west = held (h.west +ℤ pos (k.col * h.tile)) }

-- where a tile's directory entry stands
unfoldable pub entry_of : Header → TileKey → ℕ
entry_of h k = h.directory + (k.row * h.cols + k.col) * 8

-- a directory entry: offset and length; length 0 means no tile, offset unread; else it lies within data and total, or is refused with 4
unfoldable pub locate_of : Header → List ℕ → Result (Option (ℕ × ℕ)) Refusal
locate_of h e =
    cond (eqb (u32_at e At.length_at) 0) (Ok None)
    (cond (leb h.«data» (u32_at e At.offset_at) && leb (u32_at e At.offset_at + u32_at e At.length_at) h.total)
    (Ok (Some (u32_at e At.offset_at, u32_at e At.length_at)))
    (Err Refusal.Corrupt))

-- ---- the public functions, with their refusals

-- a header that a call is given, with 12 where it breaks a rule
abbrev pub given : Header → Result Unit Refusal
given h = cond (rules h) (Ok tt) (Err Refusal.BadState)

unfoldable pub key : Header → ℤ → ℤ → Result (Option TileKey) Refusal
key h lat lon = cond (rules h) (cond (is_point lat lon) (Ok (key_of h lat lon)) (Err Refusal.OutOfRange)) (Err Refusal.BadState)

unfoldable pub checked : Header → ℤ → ℤ → Result (Option TileKey) Refusal
checked h row col = cond (rules h) (Ok (checked_of h row col)) (Err Refusal.BadState)

unfoldable pub origin : Header → TileKey → Result Corner Refusal
origin h k = cond (rules h) (cond (in_grid h k) (Ok (corner_of h k)) (Err Refusal.OutsideGrid)) (Err Refusal.BadState)

unfoldable pub entry : Header → TileKey → Result ℕ Refusal
entry h k = cond (rules h) (cond (in_grid h k) (Ok (entry_of h k)) (Err Refusal.OutsideGrid)) (Err Refusal.BadState)

unfoldable pub locate : Header → List ℕ → Result (Option (ℕ × ℕ)) Refusal
locate h e = cond (rules h) (locate_of h e) (Err Refusal.BadState)

-- ---- a lent pack

-- len bytes from offset on, where the pack has them; 2 where they pass its end
unfoldable pub read : List ℕ → ℕ → ℕ → Result ℕ Refusal
read pack offset len = cond (leb (offset + len) (length pack)) (Ok offset) (Err Refusal.PastPack)
