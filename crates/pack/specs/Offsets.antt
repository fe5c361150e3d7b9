-- Where each field of the pack's sector and of a directory entry stands: document 01, "pack.rs". The readers and the writer go by these names.
use Rattle.std.specs.Prelude.{ℕ}

-- ---- in the sector, of 512 bytes

abbrev pub magic_at : ℕ
magic_at = 0

abbrev pub version_at : ℕ
version_at = 16

abbrev pub tile_size_at : ℕ
tile_size_at = 20

abbrev pub south_at : ℕ
south_at = 24

abbrev pub west_at : ℕ
west_at = 28

abbrev pub rows_at : ℕ
rows_at = 32

abbrev pub cols_at : ℕ
cols_at = 34

abbrev pub directory_at : ℕ
directory_at = 36

abbrev pub data_at : ℕ
data_at = 40

abbrev pub total_at : ℕ
total_at = 44

abbrev pub tiles_at : ℕ
tiles_at = 48

-- 8 bytes
abbrev pub created_at : ℕ
created_at = 52

abbrev pub attribution_offset_at : ℕ
attribution_offset_at = 60

abbrev pub attribution_len_at : ℕ
attribution_len_at = 64

-- CRC of the 508 bytes before it
abbrev pub sum_at : ℕ
sum_at = 508

-- ---- in a directory entry, of 8 bytes

abbrev pub offset_at : ℕ
offset_at = 0

abbrev pub length_at : ℕ
length_at = 4
