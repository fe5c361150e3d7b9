-- Document 01, "Bench lines, all marked": each line as a fact about the definitions, together as one table. `proofs/Table` proves it.
use Rattle.refusal.specs.declared.Refusal.{Refusal}
use Rattle.std.specs.Prelude.{Err, Some, None, Ok, ℕ, ◌+◌, ◌*◌, ◌≡◌, false, [], ◌∷◌, replicate, ℤ, pos, negsuc, Float}
use Rattle.std.specs.Float.{fin, binary32}
use Rattle.std.specs.Float.Ieee.{of_int, of_bits, to_bits}
use Rattle.crc.specs.Fcs.{crc32}
use Rattle.num.specs.Root.{square_root}
use Rattle.pack.specs.Grid.{key, entry}
use Rattle.pack.specs.declared.Header.{Header}
use Rattle.pack.specs.declared.TileKey.{TileKey}
use Rattle.tile.specs.Layout.{length}
use Rattle.cache.specs.Runs.{span, empty_slot}
use Rattle.cache.specs.Victim.{victim}
use Rattle.cache.specs.declared.Pages.{Pages}
use Rattle.predict.specs.Twins.{no_twin, boundary_twins}
use Rattle.engine.specs.Fixes.{from_e7}
use Rattle.engine.specs.declared.Fix.{Fix}
use Rattle.engine.specs.Calls.{new, fix}
use Rattle.predict.specs.declared.twins.Twin.{Twin}

-- a header with these grid fields, its data behind the directory and nothing behind them
abbrev grid_of : ℕ → ℕ → ℕ → ℕ → Header
grid_of size rows cols directory = record {
  tile = size;
  south = pos 0;
  west = pos 0;
  rows = rows;
  cols = cols;
  directory = directory;
  «data» = directory + rows * cols * 8;
  total = directory + rows * cols * 8;
  tiles = 0;
  created = 0;
  attribution_offset = 0;
  attribution_len = 0;
}

abbrev cell : ℕ → ℕ → TileKey
cell row col = record { row = row; col = col }

-- south 0, size 1,000, 2 rows
abbrev two_rows : Header
two_rows = grid_of 1000 2 1 512

-- four pages, all empty
abbrev four_empty : Pages
four_empty = record { slots = replicate 96 empty_slot; used = replicate 96 0; count = 4; clock = 0 }

abbrev twin : ℤ → ℤ → ℕ → ℕ → Twin
twin row col x y = record { row = row; col = col; x = x; y = y }

-- a fix at a latitude, on the first meridian
abbrev pub fix_at : ℕ → Fix
fix_at lat = record { lat = pos lat; lon = pos 0; at_ms = 0 }

pub record Lines : Type 0 where
  -- CRC of ASCII 123456789; of no bytes
  pub crc_of_digits : crc32 (49 ∷ 50 ∷ 51 ∷ 52 ∷ 53 ∷ 54 ∷ 55 ∷ 56 ∷ 57 ∷ []) ≡ 0xcbf43926
  pub crc_of_nothing : crc32 [] ≡ 0
  -- 16,777,217 as a float is 16,777,216, which is 2 ^ 24; 16,777,219 is 16,777,220, which is 4,194,305 * 2 ^ 2
  pub float_below : of_int binary32 (pos 16777217) ≡ fin false 1 (pos 24)
  pub float_above : of_int binary32 (pos 16777219) ≡ fin false 4194305 (pos 2)
  -- the root of 2.0, by its bits
  pub root_of_two : to_bits binary32 (square_root binary32 (of_bits binary32 0x40000000)) ≡ 0x3fb504f3
  -- the row of latitude -1, 0, 1,999 and 2,000: none, 0, 1, none
  pub row_below : key two_rows (negsuc 0) (pos 0) ≡ Ok None
  pub row_first : key two_rows (pos 0) (pos 0) ≡ Ok (Some (cell 0 0))
  pub row_last : key two_rows (pos 1999) (pos 0) ≡ Ok (Some (cell 1 0))
  pub row_above : key two_rows (pos 2000) (pos 0) ≡ Ok None
  -- the entry of row 1, column 2 with the directory at 512 and 3 columns
  pub entry_offset : entry (grid_of 1000 2 3 512) (cell 1 2) ≡ Ok 552
  -- the length for 2 nodes, 1 edge, 3 vertices
  pub tile_length : length 2 1 3 ≡ 86
  -- pages for 0, 8,192, 8,193 and 49,152 bytes
  pub pages_of_none : span 0 ≡ 1
  pub pages_of_one : span 8192 ≡ 1
  pub pages_of_two : span 8193 ≡ 2
  pub pages_of_six : span 49152 ≡ 6
  -- 4 empty pages, 1 wanted and 5 wanted
  pub one_wanted : victim four_empty 1 ≡ Some 0
  pub five_wanted : victim four_empty 5 ≡ None
  -- the tiles that share the point 0, 0 of a tile of size 1,000, by steps in rows and columns, and where it stands there
  pub corner_twins : boundary_twins 0 0 1000
      ≡ record { v = twin (pos 0) (negsuc 0) 1000 0 ∷ twin (negsuc 0) (pos 0) 0 1000 ∷ twin (negsuc 0) (negsuc 0) 1000 1000 ∷ replicate 5 no_twin; len = 3 }
  -- -15 in 1e-7 degrees is -1 in micro-degrees
  pub cut_toward_zero : from_e7 (negsuc 14) (pos 0) 0 ≡ record { lat = negsuc 0; lon = pos 0; at_ms = 0 }
  -- a fix at 360,000,000 is accepted, one at 360,000,001 refused with 8, by a new engine of any horizon
  pub fix_at_limit : (horizon : Float) → (fix (new [] horizon) [] (fix_at 360000000)).answer ≡ Ok tt
  pub fix_past_limit : (horizon : Float) → (fix (new [] horizon) [] (fix_at 360000001)).answer ≡ Err Refusal.OutOfRange
