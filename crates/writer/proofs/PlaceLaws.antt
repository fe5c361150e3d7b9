-- Places of the grid and the tiles that stand there: the place of a key, the tile and the start that a key finds among the tiles from a number on.
use Prim.Native.Nat.{ℕ, zero, suc, ◌+◌, ◌-◌, ◌*◌, ◌/◌, ◌%◌, ◌≤◌, ◌<◌}
use mathlib.Core.Path.{◌≡◌, refl, sym, ap, ◌∙◌}
use mathlib.Core.Bool.{Bool, true, false, ◌&&◌, cond}
use mathlib.Core.List.{List}
use native.Mathlib.Numerals.{add-one}
use native.Mathlib.Nat.{mul-add-div_right, mul-add-mod_self_right, div-eq_of_lt, mod-eq_of_lt, div-add-mod', mul-le-mul_right}
use native.Mathlib.Omega.{arith}
use lib.Dec.{eqb, ltb}
use lib.ListN.{length, drop, get_or, drop_of_length-le, length-drop}
use lib.Seq.{drop-cons, drop-drop, length-take-le}
use borrow.Author.Tests.{eqb-true, eq-eqb, ltb-true, ltb-false}
use Rattle.pack.specs.declared.TileKey.{TileKey}
use Rattle.tile.proofs.Laws.{and_left, and_right, clause}
use Rattle.writer.specs.Fields.{put}
use Rattle.writer.specs.TileWritten.{field}
use Rattle.writer.specs.PackWritten.{GivenPack, cut, sum_of, key_in, key_at, same_key, tile_of, tile_rules, tile_is_good, tiles_good, pack_rules, pack_good, places}
use Rattle.writer.specs.PackSteps.{start_of, numbered, tiles_from, source_of, source, long, entries}
use Rattle.writer.proofs.CutLaws.{from_all, from_more, from_end, start_more, start_within, start_back, good_more, good_end}
use Rattle.writer.proofs.EntryBytes.{put_offset, put_long}

-- ---- the place of a key

module _ (g : GivenPack) (key : TileKey) (h : key.col < g.cols) where
  wide : 0 < g.cols
  wide = omega arith

  pub same_at : same_key key (key_at g (key.row * g.cols + key.col)) ≡ true
  same_at =
      rw (
        mul-add-div_right wide key.row key.col,
        div-eq_of_lt h,
        mul-add-mod_self_right key.row g.cols key.col,
        mod-eq_of_lt h,
        eq-eqb key.row (key.row + 0) (omega arith),
        eq-eqb key.col key.col refl,
      )

  pub place_below : key.row < g.rows → key.row * g.cols + key.col < places g
  place_below k =
      let next : key.row + 1 ≤ g.rows = omega arith in
      omega (arith, mul-le-mul_right g.cols next)

pub same_only : (g : GivenPack) (key : TileKey) (p : ℕ) → same_key key (key_at g p) ≡ true → p ≡ key.row * g.cols + key.col
same_only g key p e =
    let row : key.row ≡ p / g.cols = eqb-true _ _ (and_left (eqb key.row (p / g.cols)) (eqb key.col (p % g.cols)) e) in
    let col : key.col ≡ p % g.cols = eqb-true _ _ (and_right (eqb key.row (p / g.cols)) (eqb key.col (p % g.cols)) e) in
    rw (row, col) (sym (div-add-mod' p g.cols))

pub same_not : (g : GivenPack) (key : TileKey) (p : ℕ) → (p ≡ key.row * g.cols + key.col → ⊥) → same_key key (key_at g p) ≡ false
same_not g key p n = go (same_key key (key_at g p)) refl
  where
    go : (b : Bool) → same_key key (key_at g p) ≡ b → b ≡ false
    go true e = absurd (n (same_only g key p e))
    go false e = refl

-- ---- the tiles of a good pack

pub good_on : (g : GivenPack) (ns bs : List ℕ) (i : ℕ) → tiles_good g (cut ns bs) ≡ true → tiles_good g (tiles_from ns bs i) ≡ true
good_on g ns bs zero e = rw from_all e
good_on g ns bs (suc i) e = rw add-one at (go (ltb i (length ns)) refl (good_on g ns bs i e))
  where
    go : (b : Bool) → ltb i (length ns) ≡ b → tiles_good g (tiles_from ns bs i) ≡ true → tiles_good g (tiles_from ns bs (i + 1)) ≡ true
    go true q last =
        and_right (tile_is_good g (numbered ns bs i)) (tiles_good g (tiles_from ns bs (i + 1)))
        (sym (good_more g ns bs i (ltb-true i (length ns) q)) ∙ last)
    go false q last = good_end g ns bs (i + 1) (omega (arith, ltb-false i (length ns) q))

pub good_at : (g : GivenPack) (ns bs : List ℕ) (i : ℕ) → i < length ns → tiles_good g (cut ns bs) ≡ true → tile_is_good g (numbered ns bs i) ≡ true
good_at g ns bs i h e =
    and_left (tile_is_good g (numbered ns bs i)) (tiles_good g (tiles_from ns bs (i + 1)))
    (sym (good_more g ns bs i h) ∙ good_on g ns bs i e)

module _ (g : GivenPack) (good : pack_good g ≡ true) where
  pub rule : (k : ℕ) → get_or (pack_rules g) k true ≡ true
  unfolding pack_good
  rule k = clause k (pack_rules g) good

  pub sum_is : sum_of g.lengths ≡ length g.tiles
  sum_is = eqb-true _ _ (rule 1)

  module _ (i : ℕ) (h : i < length g.lengths) where
    abbrev pub key : TileKey
    key = key_in (numbered g.lengths g.tiles i)

    in_grid : (ltb key.row g.rows && ltb key.col g.cols) ≡ true
    in_grid = clause 2 (tile_rules g (numbered g.lengths g.tiles i)) (good_at g g.lengths g.tiles i h (rule 2))

    pub in_rows : key.row < g.rows
    in_rows = ltb-true _ _ (and_left (ltb key.row g.rows) (ltb key.col g.cols) in_grid)

    pub in_cols : key.col < g.cols
    in_cols = ltb-true _ _ (and_right (ltb key.row g.rows) (ltb key.col g.cols) in_grid)

-- ---- what a place finds among the tiles from a number on

module _ (g : GivenPack) (i p : ℕ) where
  pub source_more : (k : ℕ) → i + 1 ≡ k → i < length g.lengths
      → source g i p ≡ cond (same_key (key_in (numbered g.lengths g.tiles i)) (key_at g p)) (start_of g.lengths i) (source g k p)
  unfolding source source_of
  source_more k next h =
      rw (← next, drop-cons g.lengths i 0 h, start_more g.lengths i h, drop-drop, add-one)

  pub long_more : (k : ℕ) → i + 1 ≡ k → i < length g.lengths
      → long g i p
      ≡ cond (same_key (key_in (numbered g.lengths g.tiles i)) (key_at g p)) (length (numbered g.lengths g.tiles i)) (long g k p)
  unfolding long tile_of
  long_more k next h = rw (from_more g.lengths g.tiles i h, next)
      (go (same_key (key_in (numbered g.lengths g.tiles i)) (key_at g p)))
    where
      go : (b : Bool)
          → length (cond b (numbered g.lengths g.tiles i) (tile_of (tiles_from g.lengths g.tiles k) (key_at g p)))
          ≡ cond b (length (numbered g.lengths g.tiles i)) (length (tile_of (tiles_from g.lengths g.tiles k) (key_at g p)))
      go true = refl
      go false = refl

  pub source_end : length g.lengths ≤ i → source g i p ≡ 0
  unfolding source source_of
  source_end h = rw (drop_of_length-le g.lengths h)

  pub long_end : length g.lengths ≤ i → long g i p ≡ 0
  unfolding long tile_of
  long_end h = rw (from_end g.lengths g.tiles i h)

-- ---- a tile's start and length put into its entry

module _ (g : GivenPack) (good : pack_good g ≡ true) (i k : ℕ) (next : i + 1 ≡ k) (h : i < length g.lengths) where
  abbrev pub named : TileKey
  named = key_in (numbered g.lengths g.tiles i)

  abbrev pub place_of : ℕ
  place_of = named.row * g.cols + named.col

  pub placed : place_of < places g
  placed = place_below g named (in_cols g good i h) (in_rows g good i h)

  pub full : length (numbered g.lengths g.tiles i) ≡ get_or g.lengths i 0
  full =
      length-take-le (get_or g.lengths i 0) (drop (start_of g.lengths i) g.tiles)
      (omega (arith, length-drop (start_of g.lengths i) g.tiles, start_within g.lengths i h, sum_is g good))

  pub place_step : put (field (place_of * 8 + 4) 4 (get_or g.lengths i 0))
      (put (field (place_of * 8) 4 (start_of g.lengths i)) (entries (source g k) (long g k) (places g)))
      ≡ entries (source g i) (long g i) (places g)
  place_step =
      ap (put (field (place_of * 8 + 4) 4 (get_or g.lengths i 0)))
      (put_offset (source g k) (source g i) (long g k) (places g) place_of (start_of g.lengths i) placed
      (source_more g i place_of k next h ∙ ap (λ (b : Bool). cond b (start_of g.lengths i) (source g k place_of)) (same_at g named (in_cols g good i h)))
      (λ q d. source_more g i q k next h ∙ ap (λ (b : Bool). cond b (start_of g.lengths i) (source g k q)) (same_not g named q d)))
      ∙ put_long (source g i) (long g k) (long g i) (places g) place_of (get_or g.lengths i 0) placed
      (long_more g i place_of k next h
      ∙ ap (λ (b : Bool). cond b (length (numbered g.lengths g.tiles i)) (long g k place_of)) (same_at g named (in_cols g good i h))
      ∙ full)
      (λ q d. long_more g i q k next h
      ∙ ap (λ (b : Bool). cond b (length (numbered g.lengths g.tiles i)) (long g k q)) (same_not g named q d))

-- the same by the numbers that the code has: the tile before number `after`, which ends at `end`
module _
    (g : GivenPack)
    (good : pack_good g ≡ true)
    (after end entry : ℕ)
    (key : TileKey)
    (some : 0 < after)
    (within : after ≤ length g.lengths)
    (ends : end ≡ start_of g.lengths after)
    (named : key ≡ key_in (numbered g.lengths g.tiles (after - 1)))
    (found : entry ≡ (key.row * g.cols + key.col) * 8)
  where
    next : after - 1 + 1 ≡ after
    next = omega arith

    below : after - 1 < length g.lengths
    below = omega arith

    entry_is : entry ≡ place_of g good (after - 1) after next below * 8
    entry_is =
        found
        ∙ ap (λ (k : TileKey). (k.row * g.cols + k.col) * 8) named

    pub turn_fits : entry + 8 ≤ places g * 8
    turn_fits = omega (arith, entry_is, placed g good (after - 1) after next below)

    pub turn_start : end - get_or g.lengths (after - 1) 0 ≡ start_of g.lengths (after - 1)
    turn_start = omega (arith, start_back g.lengths (after - 1) after next below)

    pub turn : (out : List ℕ) → out ≡ entries (source g after) (long g after) (places g)
        → put (field (entry + 4) 4 (get_or g.lengths (after - 1) 0)) (put (field entry 4 (end - get_or g.lengths (after - 1) 0)) out)
        ≡ entries (source g (after - 1)) (long g (after - 1)) (places g)
    turn out e = rw (turn_start, e, entry_is) (place_step g good (after - 1) after next below)
