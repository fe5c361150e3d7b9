-- A written pack read: for every key of the grid the entry locates just the bytes of its tile, or none; and the tile of a number is the one that
-- its key finds.
use Prim.Native.Nat.{ℕ, zero, suc, ◌+◌, ◌*◌, ◌≤◌, ◌<◌}
use mathlib.Core.Path.{◌≡◌, refl, sym, ap, ◌∙◌}
use mathlib.Core.Bool.{Bool, true, false, cond, true≢false}
use mathlib.Core.List.{List, ◌++◌, append_assoc}
use native.Mathlib.Omega.{arith}
use lib.Dec.{eqb}
use lib.ListN.{length, take, drop, get_or, length-append, length-drop}
use lib.Seq.{drop_at, drop-drop, take-length, take-append-le, drop-append-le, get_or-append-add}
use borrow.Author.Tests.{eqb-true, eqb-false, eq-eqb, ne_eqb, le-leb}
use Rattle.pack.specs.Bytes.{u16_at, u32_at}
use Rattle.pack.specs.Grid.{in_grid, entry_of, locate_of}
use Rattle.pack.specs.declared.TileKey.{TileKey}
use Rattle.std.specs.Prelude.{Some, None, Ok}
use Rattle.pack.proofs.Laws.{u32_slice, row_below, col_below}
use Rattle.tile.proofs.Laws.{and_left, and_right}
use Rattle.writer.specs.PackWritten.{GivenPack, key_in, key_at, same_key, has_key, tile_of, tiles_of, tile_at, tiles_below, places, data_start, total, header_of, sector_bytes, directory_bytes, pack_good, pack_bytes}
use Rattle.writer.specs.PackSteps.{numbered, tiles_from, offset, entries}
use Rattle.writer.proofs.CutLaws.{from_all, from_more}
use Rattle.writer.proofs.KeyLaws.{key_here, key_on}
use Rattle.writer.proofs.EntryBytes.{length-entries, read_offset, read_long}
use Rattle.writer.proofs.PlaceLaws.{sum_is, same_at, place_below}
use Rattle.writer.proofs.TileSums.{tiles_long, has_same, once}
use Rattle.writer.proofs.LayLaws.{directory_entries}
use Rattle.writer.proofs.SectorReads.{length_sector}

-- ---- a number behind a front

byte_behind : (front rest : List ℕ) (n k i : ℕ) → length front ≡ n → n + k ≡ i → get_or (front ++ rest) i 0 ≡ get_or rest k 0
byte_behind front rest n k i e d =
    let place : i ≡ length front + k = omega arith in
    ap (λ (m : ℕ). get_or (front ++ rest) m 0) place ∙ get_or-append-add front rest k 0

u32_behind : (front rest : List ℕ) (n k : ℕ) → length front ≡ n → u32_at (front ++ rest) (n + k) ≡ u32_at rest k
unfolding u32_at u16_at
u32_behind front rest n k e =
    rw (
      byte_behind front rest n k (n + k) e refl,
      byte_behind front rest n (k + 1) (n + k + 1) e (omega arith),
      byte_behind front rest n (k + 2) (n + k + 2) e (omega arith),
      byte_behind front rest n (k + 2 + 1) (n + k + 2 + 1) e (omega arith),
    )

-- ---- a place's tile among those of all places

module _ (g : GivenPack) where
  below_more : (n : ℕ) → length (tiles_below g (suc n)) ≡ length (tiles_below g n) + length (tile_at g n)
  unfolding tiles_below
  below_more n = length-append (tiles_below g n) (tile_at g n)

  below_rises : (p n : ℕ) → p < n → length (tiles_below g p) + length (tile_at g p) ≤ length (tiles_below g n)
  below_rises p zero h = absurd (omega arith)
  below_rises p (suc n) h = go (eqb p n) refl (λ k. below_rises p n k)
    where
      go : (b : Bool) → eqb p n ≡ b → (p < n → length (tiles_below g p) + length (tile_at g p) ≤ length (tiles_below g n))
          → length (tiles_below g p) + length (tile_at g p) ≤ length (tiles_below g (suc n))
      go true e r = omega (arith, below_more n, ap (λ (k : ℕ). length (tiles_below g k) + length (tile_at g k)) (eqb-true p n e))
      go false e r = let apart : p ≡ n → ⊥ = eqb-false p n e in omega (arith, r (omega arith), below_more n)

  below_part : (p n : ℕ) → p < n → take (length (tile_at g p)) (drop (length (tiles_below g p)) (tiles_below g n)) ≡ tile_at g p
  unfolding tiles_below
  below_part p zero h = absurd (omega arith)
  below_part p (suc n) h = go (eqb p n) refl (λ k. below_part p n k)
    where
      go : (b : Bool) → eqb p n ≡ b → (p < n → take (length (tile_at g p)) (drop (length (tiles_below g p)) (tiles_below g n)) ≡ tile_at g p)
          → take (length (tile_at g p)) (drop (length (tiles_below g p)) (tiles_below g n ++ tile_at g n)) ≡ tile_at g p
      go true e r =
          let same : p ≡ n = eqb-true p n e in
          rw same (ap (take (length (tile_at g n))) (drop_at (tiles_below g n) (tile_at g n) (length (tiles_below g n)) refl) ∙ take-length (tile_at g n))
      go false e r =
          let apart : p ≡ n → ⊥ = eqb-false p n e in
          let less : p < n = omega arith in
          let whole : length (tiles_below g p) ≤ length (tiles_below g n) = omega (arith, below_rises p n less) in
          let left : length (tile_at g p) ≤ length (drop (length (tiles_below g p)) (tiles_below g n)) =
          omega (arith, below_rises p n less, length-drop (length (tiles_below g p)) (tiles_below g n))
          in
          ap (take (length (tile_at g p))) (drop-append-le (length (tiles_below g p)) (tiles_below g n) (tile_at g n) whole)
          ∙ take-append-le (length (tile_at g p)) (drop (length (tiles_below g p)) (tiles_below g n)) (tile_at g n) left
          ∙ r less

-- ---- the entry of a key

module _ (g : GivenPack) (good : pack_good g ≡ true) (small : total g ≤ 0xffff_ffff) (key : TileKey) (grid : in_grid (header_of g) key ≡ true) where
  abbrev pub place : ℕ
  place = key.row * g.cols + key.col

  placed : place < places g
  placed = place_below g key (col_below (header_of g) key grid) (row_below (header_of g) key grid)

  same : same_key key (key_at g place) ≡ true
  same = same_at g key (col_below (header_of g) key grid)

  key_is : key_at g place ≡ key
  key_is =
      let row : key.row ≡ (key_at g place).row = eqb-true _ _ (and_left (eqb key.row (key_at g place).row) (eqb key.col (key_at g place).col) same) in
      let col : key.col ≡ (key_at g place).col = eqb-true _ _ (and_right (eqb key.row (key_at g place).row) (eqb key.col (key_at g place).col) same) in
      sym (ap (λ (r : ℕ). record { row = r; col = key.col }) row ∙ ap (λ (c : ℕ). record { row = (key_at g place).row; col = c }) col)

  abbrev pub mine : List ℕ
  mine = tile_of (tiles_of g) key

  mine_is : tile_at g place ≡ mine
  mine_is = ap (tile_of (tiles_of g)) key_is

  abbrev pub start : ℕ
  start = data_start g + length (tiles_below g place)

  directory_is : directory_bytes g ≡ entries (offset g) (λ p. length (tile_at g p)) (places g)
  directory_is = directory_entries g

  pub ends : start + length mine ≤ total g
  ends = omega (arith, below_rises g place (places g) placed, ap length mine_is, tiles_long g good, sum_is g good)

  abbrev pub entry : List ℕ
  entry = take 8 (drop (entry_of (header_of g) key) (pack_bytes g))

  in_pack : (k : ℕ) → k + 4 ≤ 8 → u32_at entry k ≡ u32_at (entries (offset g) (λ p. length (tile_at g p)) (places g) ++ tiles_below g (places g)) (place * 8 + k)
  unfolding entry_of pack_bytes
  in_pack k h =
      u32_slice (pack_bytes g) (512 + place * 8) 8 k (512 + (place * 8 + k)) h (omega arith)
      ∙ u32_behind (sector_bytes (header_of g)) (directory_bytes g ++ tiles_below g (places g)) 512 (place * 8 + k) (length_sector (header_of g))
      ∙ ap (λ (d : List ℕ). u32_at (d ++ tiles_below g (places g)) (place * 8 + k)) directory_is

  offset_small : offset g place < 0x1_0000_0000
  unfolding offset
  offset_small = go (eqb (length (tile_at g place)) 0)
    where
      go : (b : Bool) → cond b 0 start < 0x1_0000_0000
      go true = omega arith
      go false = omega (arith, ends)

  offset_is : u32_at entry 0 ≡ offset g place
  offset_is =
      in_pack 0 (omega arith)
      ∙ ap (u32_at (entries (offset g) (λ p. length (tile_at g p)) (places g) ++ tiles_below g (places g))) zero_more
      ∙ read_offset (offset g) (λ p. length (tile_at g p)) place (places g) (tiles_below g (places g)) placed offset_small
    where
      zero_more : place * 8 + 0 ≡ place * 8
      zero_more = omega arith

  length_is : u32_at entry 4 ≡ length mine
  length_is =
      in_pack 4 (omega arith)
      ∙ read_long (offset g) (λ p. length (tile_at g p)) place (places g) (tiles_below g (places g)) placed (omega (arith, ends, ap length mine_is))
      ∙ ap length mine_is

  -- a key without a tile has none
  pub entry_none : length mine ≡ 0 → locate_of (header_of g) entry ≡ Ok None
  unfolding locate_of
  entry_none e = rw (length_is, e)

  -- any other has just its tile
  pub entry_tile : 0 < length mine → locate_of (header_of g) entry ≡ Ok (Some (start, length mine))
  unfolding locate_of offset
  entry_tile h =
      let some : eqb (length mine) 0 ≡ false = ne_eqb (length mine) 0 (λ e. omega arith) in
      let there : u32_at entry 0 ≡ start = offset_is ∙ rw (ap length mine_is, some) in
      rw (length_is, there, some, le-leb (data_start g) start (omega arith), le-leb (start + length mine) (total g) ends)

  pub tile_there : take (length mine) (drop start (pack_bytes g)) ≡ mine
  unfolding pack_bytes
  tile_there =
      let front : List ℕ = sector_bytes (header_of g) ++ directory_bytes g in
      let size : length front ≡ data_start g =
      length-append (sector_bytes (header_of g)) (directory_bytes g)
      ∙ omega (arith, length_sector (header_of g), ap length directory_is, length-entries (offset g) (λ p. length (tile_at g p)) (places g))
      in
      ap (λ (bs : List ℕ). take (length mine) (drop start bs)) (sym (append_assoc (sector_bytes (header_of g)) (directory_bytes g) (tiles_below g (places g))))
      ∙ ap (take (length mine))
      (sym (drop-drop (length (tiles_below g place)) (data_start g) (front ++ tiles_below g (places g)))
      ∙ ap (drop (length (tiles_below g place))) (drop_at front (tiles_below g (places g)) (data_start g) size))
      ∙ ap (λ (n : ℕ). take n (drop (length (tiles_below g place)) (tiles_below g (places g)))) (sym (ap length mine_is))
      ∙ below_part g place (places g) placed
      ∙ mine_is

  pub length_pack : length (pack_bytes g) ≡ total g
  unfolding pack_bytes
  length_pack =
      omega (
        arith,
        length-append (sector_bytes (header_of g)) (directory_bytes g ++ tiles_below g (places g)),
        length-append (directory_bytes g) (tiles_below g (places g)),
        length_sector (header_of g),
        ap length directory_is,
        length-entries (offset g) (λ p. length (tile_at g p)) (places g),
        tiles_long g good,
        sum_is g good,
      )

-- ---- the tile of a number is the one that its key finds

module _ (g : GivenPack) (good : pack_good g ≡ true) (i : ℕ) (h : i < length g.lengths) where
  abbrev bytes : List ℕ
  bytes = numbered g.lengths g.tiles i

  -- from number j on, n before i
  has : (n j : ℕ) → j + n ≡ i → has_key (key_in bytes) (tiles_from g.lengths g.tiles j) ≡ true
  has zero j e = rw (same_number j e) (key_here (key_in bytes) g.lengths g.tiles i h (same_self (key_in bytes)))
    where
      same_number : (j : ℕ) → j + 0 ≡ i → j ≡ i
      same_number j e = omega arith

      same_self : (k : TileKey) → same_key k k ≡ true
      same_self k = rw (eq-eqb k.row k.row refl, eq-eqb k.col k.col refl)
  has (suc n) j e = go (same_key (key_in (numbered g.lengths g.tiles j)) (key_in bytes)) refl (has n (j + 1) (omega arith))
    where
      go : (b : Bool) → same_key (key_in (numbered g.lengths g.tiles j)) (key_in bytes) ≡ b
          → has_key (key_in bytes) (tiles_from g.lengths g.tiles (j + 1)) ≡ true
          → has_key (key_in bytes) (tiles_from g.lengths g.tiles j) ≡ true
      go true q r = key_here (key_in bytes) g.lengths g.tiles j (omega arith) q
      go false q r = key_on (key_in bytes) g.lengths g.tiles j (omega arith) q ∙ r

  -- no tile before it has its key
  other : (j : ℕ) → j < i → has_key (key_in bytes) (tiles_from g.lengths g.tiles (j + 1)) ≡ true
      → same_key (key_in (numbered g.lengths g.tiles j)) (key_in bytes) ≡ false
  other j l e = go (same_key (key_in (numbered g.lengths g.tiles j)) (key_in bytes)) refl
    where
      go : (b : Bool) → same_key (key_in (numbered g.lengths g.tiles j)) (key_in bytes) ≡ b → b ≡ false
      go true q =
          absurd (true≢false
          (sym e
          ∙ sym (has_same (key_in (numbered g.lengths g.tiles j)) (key_in bytes) (tiles_from g.lengths g.tiles (j + 1)) q)
          ∙ once g good j (j + 1) refl (omega arith)))
      go false q = refl

  find : (n j : ℕ) → j + n ≡ i → tile_of (tiles_from g.lengths g.tiles j) (key_in bytes) ≡ bytes
  unfolding tile_of
  find zero j e =
      let here_it_is : j ≡ i = omega arith in
      rw (here_it_is, from_more g.lengths g.tiles i h, eq-eqb (key_in bytes).row (key_in bytes).row refl, eq-eqb (key_in bytes).col (key_in bytes).col refl)
  find (suc n) j e =
      let before : j < i = omega arith in
      let there : j < length g.lengths = omega arith in
      rw (from_more g.lengths g.tiles j there, other j before (has n (j + 1) (omega arith))) (find n (j + 1) (omega arith))

  pub numbered_found : tile_of (tiles_of g) (key_in bytes) ≡ bytes
  numbered_found = rw (← from_all g.lengths g.tiles) (find i 0 (omega arith))
