-- The sector of a written pack is parsed: each field reads back, bytes without a field are zero, the CRC is that of the bytes before it, and
-- `Header::parse` gives back the grid.
use Prim.Native.Nat.{ℕ, ◌+◌, ◌-◌, ◌*◌, ◌≤◌, ◌<◌}
use mathlib.Core.Path.{◌≡◌, refl, sym, ap, ◌∙◌}
use mathlib.Core.Bool.{true}
use mathlib.Core.List.{List, [], ◌∷◌, ◌++◌, append_assoc}
use native.Mathlib.Omega.{arith}
use lib.Dec.{leb}
use lib.IntN.{ℤ, pos, negsuc, ◌+ℤ◌}
use lib.Signed.{le_z}
use lib.ListN.{length, take, drop, get_or, replicate, length-replicate, get_or-replicate}
use lib.Seq.{take_at, length-take-le}
use borrow.Author.Tests.{leb-true, eq-eqb, le-leb, lt-ltb, le-ltb}
use Rattle.crc.specs.Fcs.{crc32}
use Rattle.crc.proofs.Below.{crc_below}
use Rattle.num.specs.Cast.{bits32}
use Rattle.pack.specs.Bytes.{u16_at, u32_at, i32_at, u64_at, signed32}
use Rattle.pack.specs.Offsets as At
use Rattle.pack.specs.Sector.{spans, header_at, is_sum, is_magic, is_version, rules}
use Rattle.pack.specs.Sector as Sector
use Rattle.pack.specs.declared.Header.{Header}
use Rattle.std.specs.Prelude.{Ok}
use Rattle.pack.proofs.Signed.{le-true, add}
use Rattle.tile.proofs.Laws.{clause, and_left, and_right}
use Rattle.writer.specs.Fields.{Field, little_endian, put, puts, holding}
use Rattle.writer.specs.TileWritten.{field}
use Rattle.writer.specs.PackWritten.{GivenPack, header_of, sector_fields, grid_fields, part_fields, unsummed_sector, sector_bytes, directory_bytes, tiles_below, places, total, data_start, grid_rules, pack_good, pack_bytes}
use Rattle.writer.proofs.FieldLaws.{end, length-put, put_before, put_in, Holds, holds_behind, u16_read, u32_read, Rising, rising_from, rising_append, length-puts, puts-append, puts_before, puts_behind, In, here, there, holds_in}
use Rattle.writer.proofs.PlaceLaws.{rule, sum_is}
use Rattle.writer.proofs.WriteLaws.{count_fits}

-- ---- numbers that fit, and their sign

module _ (z : ℤ) (count size : ℕ) (s : spans z count size ≡ true) where
  low : le_z (negsuc 359999999) z ≡ true
  low = and_left (le_z (negsuc 359999999) z) (le_z (z +ℤ pos (count * size)) (pos 360000000)) s

  high : le_z (z +ℤ pos (count * size)) (pos 360000000) ≡ true
  high = and_right (le_z (negsuc 359999999) z) (le_z (z +ℤ pos (count * size)) (pos 360000000)) s

bits_fit : (z : ℤ) (count size : ℕ) → spans z count size ≡ true → bits32 z < 0x1_0000_0000
bits_fit (pos n) count size s =
    omega (arith, le-true (pos n +ℤ pos (count * size)) (pos 360000000) (high (pos n) count size s), add (pos n) (pos (count * size)))
bits_fit (negsuc n) count size s = omega arith

bits_back : (z : ℤ) (count size : ℕ) → spans z count size ≡ true → signed32 (bits32 z) ≡ z
bits_back (pos n) count size s =
    let small : n < 2147483648 = omega (arith, le-true (pos n +ℤ pos (count * size)) (pos 360000000) (high (pos n) count size s), add (pos n) (pos (count * size))) in
    rw (lt-ltb n 2147483648 small)
bits_back (negsuc n) count size s =
    let near : n ≤ 359999999 = omega (arith, le-true (negsuc 359999999) (negsuc n) (low (negsuc n) count size s)) in
    let large : 2147483648 ≤ 4294967295 - n = omega arith in
    let back : 4294967295 - (4294967295 - n) ≡ n = omega arith in
    rw (le-ltb (4294967295 - n) 2147483648 large, back)

-- ---- four bytes of zeros

zeros_read : (bs : List ℕ) (at : ℕ) → ((k : ℕ) → at ≤ k → k < at + 4 → get_or bs k 0 ≡ 0) → u32_at bs at ≡ 0
unfolding u32_at u16_at
zeros_read bs at e =
    omega (arith, e at (omega arith) (omega arith), e (at + 1) (omega arith) (omega arith), e (at + 2) (omega arith) (omega arith), e (at + 2 + 1) (omega arith) (omega arith))

-- ---- the sector's fields

module _ (h : Header) where
  abbrev blank : List ℕ
  blank = replicate 512 0

  length_blank : length blank ≡ 512
  length_blank = length-replicate {A = ℕ} 512 0

  abbrev magic : List Field
  magic = field 0 4 0x414e4156 ∷ field 4 4 0x5245542d ∷ field 8 4 0x4e494152 ∷ []

  abbrev others : List Field
  others = field 16 2 2 ∷ (grid_fields h ++ part_fields h)

  split : sector_fields h ≡ magic ++ others
  unfolding sector_fields
  split = refl

  magic_rises : Rising 0 magic 12
  magic_rises = (omega arith, (omega arith, (omega arith, omega arith)))

  others_rise : Rising 16 others 52
  others_rise =
      (omega arith, (omega arith, (omega arith, (omega arith, (omega arith, (omega arith, (omega arith, (omega arith, (omega arith, (omega arith, omega arith))))))))))

  rises : Rising 0 (magic ++ others) 52
  rises = rising_append 0 12 52 magic others magic_rises (rising_from 16 12 52 others (omega arith) others_rise)

  unsummed_is : unsummed_sector h ≡ puts (magic ++ others) blank
  unfolding holding
  unsummed_is = ap (λ (fs : List Field). puts fs blank) split

  length_unsummed : length (unsummed_sector h) ≡ 512
  length_unsummed = ap length unsummed_is ∙ length-puts 0 52 (magic ++ others) blank rises (omega (arith, length_blank)) ∙ length_blank

  abbrev sum : Field
  sum = field At.sum_at 4 (crc32 (take 508 (unsummed_sector h)))

  sum_fits : end sum ≤ length (unsummed_sector h)
  sum_fits = omega (arith, length_unsummed)

  sector_is : sector_bytes h ≡ put sum (unsummed_sector h)
  unfolding sector_bytes
  sector_is = refl

  pub length_sector : length (sector_bytes h) ≡ 512
  length_sector = ap length sector_is ∙ length-put sum (unsummed_sector h) sum_fits ∙ length_unsummed

  stands : {f : Field} → In f (magic ++ others) → end f ≤ 508 → Holds f (sector_bytes h)
  stands {f} i before =
      rw sector_is
      (holds_behind f sum (unsummed_sector h) sum_fits before
      (rw unsummed_is (holds_in 0 52 (magic ++ others) blank rises (omega (arith, length_blank)) i)))

  blank_at : (k : ℕ) → k < 508 → get_or (puts (magic ++ others) blank) k 0 ≡ get_or blank k 0 → get_or (sector_bytes h) k 0 ≡ 0
  blank_at k few e =
      ap (λ (bs : List ℕ). get_or bs k 0) sector_is
      ∙ put_before sum (unsummed_sector h) sum_fits k few
      ∙ ap (λ (bs : List ℕ). get_or bs k 0) unsummed_is
      ∙ e
      ∙ get_or-replicate 512 k 0 0 (omega arith)

  gap : (k : ℕ) → 12 ≤ k → k < 16 → get_or (sector_bytes h) k 0 ≡ 0
  gap k from to =
      let longer : length (puts magic blank) ≡ length blank = length-puts 0 12 magic blank magic_rises (omega (arith, length_blank)) in
      blank_at k (omega arith)
      (ap (λ (bs : List ℕ). get_or bs k 0) (puts-append magic others blank)
      ∙ puts_before 16 52 others (puts magic blank) others_rise (omega (arith, length_blank, longer)) k to
      ∙ puts_behind 0 12 magic blank magic_rises (omega (arith, length_blank)) k from)

  behind : (k : ℕ) → 52 ≤ k → k < 508 → get_or (sector_bytes h) k 0 ≡ 0
  behind k from to = blank_at k to (puts_behind 0 52 (magic ++ others) blank rises (omega (arith, length_blank)) k from)

  -- ---- magic, version and CRC

  pub magic_good : is_magic (sector_bytes h) ≡ true
  magic_good =
      rw (
        u32_read (sector_bytes h) 0 0x414e4156 (stands here (omega arith)) (omega arith),
        u32_read (sector_bytes h) 4 0x5245542d (stands (there here) (omega arith)) (omega arith),
        u32_read (sector_bytes h) 8 0x4e494152 (stands (there (there here)) (omega arith)) (omega arith),
        zeros_read (sector_bytes h) 12 (λ k a b. gap k a (omega arith)),
      )

  pub version_good : is_version (sector_bytes h) ≡ true
  version_good = rw (u16_read (sector_bytes h) 16 2 (stands (there (there (there here))) (omega arith)) (omega arith))

  front : take 508 (sector_bytes h) ≡ take 508 (unsummed_sector h)
  unfolding put
  front =
      let u : List ℕ = unsummed_sector h in
      let size : length (take 508 u) ≡ 508 = length-take-le 508 u (omega (arith, length_unsummed)) in
      ap (take 508) (sector_is ∙ append_assoc (take 508 u) (take 4 (little_endian 4 (crc32 (take 508 u)))) (drop 512 u))
      ∙ take_at (take 508 u) _ 508 size

  sum_read : u32_at (sector_bytes h) 508 ≡ crc32 (take 508 (unsummed_sector h))
  sum_read =
      u32_read (sector_bytes h) 508 (crc32 (take 508 (unsummed_sector h)))
      (rw sector_is (λ (i : ℕ) (l : i < 4). put_in sum (unsummed_sector h) sum_fits i l))
      (crc_below (take 508 (unsummed_sector h)))

  pub sum_good : is_sum (sector_bytes h) ≡ true
  sum_good = eq-eqb _ _ (ap crc32 front ∙ sym sum_read)

-- ---- the header of a pack that is written

module _ (g : GivenPack) (good : pack_good g ≡ true) (few_rows : g.rows < 65536) (few_cols : g.cols < 65536) (small : total g ≤ 0xffff_ffff) where
  abbrev h : Header
  h = header_of g

  abbrev s : List ℕ
  s = sector_bytes h

  grid_rule : (k : ℕ) → get_or (grid_rules g) k true ≡ true
  grid_rule k = clause k (grid_rules g) (rule g good 0)

  pub rules_good : rules h ≡ true
  unfolding rules
  rules_good =
      let start : data_start g ≤ total g = omega arith in
      rw (
        grid_rule 0,
        grid_rule 1,
        grid_rule 2,
        grid_rule 3,
        grid_rule 4,
        eq-eqb (data_start g) (data_start g) refl,
        le-leb (data_start g) (total g) start,
      )

  pub tile_read : u32_at s At.tile_size_at ≡ g.size
  tile_read =
      u32_read s At.tile_size_at g.size (stands h (there (there (there (there here)))) (omega arith))
      (omega (arith, leb-true g.size 65535 (and_right (leb 1 g.size) (leb g.size 65535) (grid_rule 0))))

  pub south_read : i32_at s At.south_at ≡ g.south
  unfolding i32_at
  south_read =
      ap signed32 (u32_read s At.south_at (bits32 g.south) (stands h (there (there (there (there (there here))))) (omega arith)) (bits_fit g.south g.rows g.size (grid_rule 3)))
      ∙ bits_back g.south g.rows g.size (grid_rule 3)

  pub west_read : i32_at s At.west_at ≡ g.west
  unfolding i32_at
  west_read =
      ap signed32 (u32_read s At.west_at (bits32 g.west) (stands h (there (there (there (there (there (there here)))))) (omega arith)) (bits_fit g.west g.cols g.size (grid_rule 4)))
      ∙ bits_back g.west g.cols g.size (grid_rule 4)

  pub rows_read : u16_at s At.rows_at ≡ g.rows
  rows_read = u16_read s At.rows_at g.rows (stands h (there (there (there (there (there (there (there here))))))) (omega arith)) few_rows

  pub cols_read : u16_at s At.cols_at ≡ g.cols
  cols_read = u16_read s At.cols_at g.cols (stands h (there (there (there (there (there (there (there (there here)))))))) (omega arith)) few_cols

  directory_read : u32_at s At.directory_at ≡ 512
  directory_read = u32_read s At.directory_at 512 (stands h (there (there (there (there (there (there (there (there (there here))))))))) (omega arith)) (omega arith)

  data_read : u32_at s At.data_at ≡ data_start g
  data_read = u32_read s At.data_at (data_start g) (stands h (there (there (there (there (there (there (there (there (there (there here)))))))))) (omega arith)) (omega arith)

  total_read : u32_at s At.total_at ≡ total g
  total_read = u32_read s At.total_at (total g) (stands h (there (there (there (there (there (there (there (there (there (there (there here))))))))))) (omega arith)) (omega arith)

  tiles_read : u32_at s At.tiles_at ≡ length g.lengths
  tiles_read = u32_read s At.tiles_at (length g.lengths) (stands h (there (there (there (there (there (there (there (there (there (there (there (there here)))))))))))) (omega arith)) (omega (arith, count_fits g good, sum_is g good))

  created_read : u64_at s At.created_at ≡ 0
  unfolding u64_at
  created_read =
      omega (arith, zeros_read s 52 (λ k a b. behind h k (omega arith) (omega arith)), zeros_read s (52 + 4) (λ k a b. behind h k (omega arith) (omega arith)))

  pub header_read : header_at s ≡ h
  header_read =
      rw (
        tile_read,
        south_read,
        west_read,
        rows_read,
        cols_read,
        directory_read,
        data_read,
        total_read,
        tiles_read,
        created_read,
        zeros_read s 60 (λ k a b. behind h k (omega arith) (omega arith)),
        zeros_read s 64 (λ k a b. behind h k (omega arith) (omega arith)),
      )

  -- `Header::parse` takes the first sector and gives back the grid
  pub sector_parses : Sector.parse s ≡ Ok h
  unfolding Sector.parse
  sector_parses = rw (sum_good h, magic_good h, version_good h, header_read, rules_good)

  pub pack_parses : Sector.parse (take 512 (pack_bytes g)) ≡ Ok h
  unfolding pack_bytes
  pack_parses = rw (take_at s (directory_bytes g ++ tiles_below g (places g)) 512 (length_sector h)) sector_parses
