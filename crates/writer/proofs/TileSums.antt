-- The tiles of all places together are as long as the lengths given: each tile stands at one place, and no other has its key.
use Prim.Native.Nat.{ℕ, zero, suc, ◌+◌, ◌-◌, ◌≤◌, ◌<◌}
use mathlib.Core.Path.{◌≡◌, refl, sym, ap, ◌∙◌}
use mathlib.Core.Bool.{Bool, true, false, not, cond, true≢false}
use mathlib.Core.List.{List, [], ◌∷◌}
use native.Mathlib.Numerals.{add-one}
use native.Mathlib.Omega.{arith}
use lib.Dec.{eqb}
use lib.ListN.{length, get_or, length-append}
use borrow.Author.Tests.{eqb-true, eqb-false, not-true}
use Rattle.pack.specs.declared.TileKey.{TileKey}
use Rattle.tile.proofs.Laws.{and_left, and_right}
use Rattle.writer.specs.PackWritten.{GivenPack, sum_of, key_in, key_at, same_key, tile_of, tile_at, tiles_below, has_key, no_key_twice, pack_good, places}
use Rattle.writer.specs.PackSteps.{start_of, numbered, tiles_from, long}
use Rattle.writer.proofs.CutLaws.{from_all, from_more, start_zero, start_more, start_end}
use Rattle.writer.proofs.KeyLaws.{once_later}
use Rattle.writer.proofs.PlaceLaws.{rule, sum_is, place_of, placed, same_at, same_not, in_cols, long_more, long_end, full}

-- ---- a sum over the places below n

unfoldable sum_below : (ℕ → ℕ) → ℕ → ℕ
sum_below f zero = 0
sum_below f (suc n) = sum_below f n + f n

sum_same : (f h : ℕ → ℕ) (n : ℕ) → ((q : ℕ) → q < n → f q ≡ h q) → sum_below f n ≡ sum_below h n
unfolding sum_below
sum_same f h zero e = refl
sum_same f h (suc n) e = rw (sum_same f h n (λ q k. e q (omega arith)), e n (omega arith))

sum_none : (f : ℕ → ℕ) (n : ℕ) → ((q : ℕ) → f q ≡ 0) → sum_below f n ≡ 0
unfolding sum_below
sum_none f zero e = refl
sum_none f (suc n) e = rw (sum_none f n e, e n)

-- one place changed from 0
sum_change : (f h : ℕ → ℕ) (n p : ℕ) → p < n → h p ≡ 0 → ((q : ℕ) → (q ≡ p → ⊥) → f q ≡ h q) → sum_below f n ≡ sum_below h n + f p
unfolding sum_below
sum_change f h zero p k none other = absurd (omega arith)
sum_change f h (suc n) p k none other = go (eqb p n) refl (λ l. sum_change f h n p l none other)
  where
    go : (b : Bool) → eqb p n ≡ b → (p < n → sum_below f n ≡ sum_below h n + f p) → sum_below f n + f n ≡ sum_below h n + h n + f p
    go true e below =
        let same : p ≡ n = eqb-true p n e in
        let zero_here : h n ≡ 0 = rw same at none in
        rw (sum_same f h n (λ q l. other q (λ d. omega arith)), zero_here, same) (omega arith)
    go false e below =
        let apart : p ≡ n → ⊥ = eqb-false p n e in
        rw (below (omega arith), other n (λ d. omega arith)) (omega arith)

sum_more : (f : ℕ → ℕ) (n k : ℕ) → n + 1 ≡ k → sum_below f k ≡ sum_below f n + f n
unfolding sum_below
sum_more f n k e = rw (← e, add-one)

sum_rises : (f : ℕ → ℕ) (n d k : ℕ) → n + d ≡ k → sum_below f n ≤ sum_below f k
sum_rises f n zero k e =
    let same : n ≡ k = omega arith in
    omega (arith, ap (sum_below f) same)
sum_rises f n (suc d) k e = omega (arith, sum_rises f n d (k - 1) (omega arith), sum_more f (k - 1) k (omega arith))

-- ---- a key that no tile has finds nothing

pub no_tile : (key : TileKey) (ts : List (List ℕ)) → has_key key ts ≡ false → tile_of ts key ≡ []
unfolding has_key tile_of
no_tile key [] e = refl
no_tile key (bs ∷ ts) e = go (same_key (key_in bs) key) e (λ k. no_tile key ts k)
  where
    go : (b : Bool) → cond b true (has_key key ts) ≡ false → (has_key key ts ≡ false → tile_of ts key ≡ []) → cond b bs (tile_of ts key) ≡ []
    go true q rest = absurd (true≢false q)
    go false q rest = rest q

pub has_same : (a b : TileKey) (ts : List (List ℕ)) → same_key a b ≡ true → has_key a ts ≡ has_key b ts
has_same a b ts e =
    let row : a.row ≡ b.row = eqb-true _ _ (and_left (eqb a.row b.row) (eqb a.col b.col) e) in
    let col : a.col ≡ b.col = eqb-true _ _ (and_right (eqb a.row b.row) (eqb a.col b.col) e) in
    ap (λ (r : ℕ). has_key (record { row = r; col = a.col }) ts) row ∙ ap (λ (k : ℕ). has_key (record { row = b.row; col = k }) ts) col

-- ---- the sum

module _ (g : GivenPack) (good : pack_good g ≡ true) where
  module _ (i k : ℕ) (next : i + 1 ≡ k) (h : i < length g.lengths) where
    abbrev pub this : TileKey
    this = key_in (numbered g.lengths g.tiles i)

    pub once : has_key this (tiles_from g.lengths g.tiles k) ≡ false
    unfolding no_key_twice
    once =
        not-true _ (and_left (not (has_key this (tiles_from g.lengths g.tiles k))) (no_key_twice (tiles_from g.lengths g.tiles k))
        (rw (from_more g.lengths g.tiles i h, next) at (once_later g.lengths g.tiles i (rule g good 3))))

    none_later : long g k (place_of g good i k next h) ≡ 0
    unfolding long
    none_later =
        ap length (no_tile (key_at g (place_of g good i k next h)) (tiles_from g.lengths g.tiles k)
        (sym (has_same this (key_at g (place_of g good i k next h)) _ (same_at g this (in_cols g good i h))) ∙ once))

    step : sum_below (long g i) (places g) ≡ sum_below (long g k) (places g) + get_or g.lengths i 0
    step =
        sum_change (long g i) (long g k) (places g) (place_of g good i k next h) (placed g good i k next h) none_later
        (λ q d. long_more g i q k next h ∙ ap (λ (b : Bool). cond b (length (numbered g.lengths g.tiles i)) (long g k q)) (same_not g this q d))
        ∙ ap (λ (n : ℕ). sum_below (long g k) (places g) + n)
        (long_more g i (place_of g good i k next h) k next h
        ∙ ap (λ (b : Bool). cond b (length (numbered g.lengths g.tiles i)) (long g k (place_of g good i k next h))) (same_at g this (in_cols g good i h))
        ∙ full g good i k next h)

  -- of the tiles from a number on, by how many are left
  left : (n i : ℕ) → i + n ≡ length g.lengths → sum_below (long g i) (places g) + start_of g.lengths i ≡ sum_of g.lengths
  left zero i e =
      let all : i ≡ length g.lengths = omega arith in
      omega (
        arith,
        sum_none (long g i) (places g) (λ q. long_end g i q (omega arith)),
        ap (start_of g.lengths) all ∙ start_end g.lengths,
      )
  left (suc n) i e =
      omega (arith, left n (i + 1) (omega arith), step i (i + 1) refl (omega arith), start_more g.lengths i (omega arith))

  -- what a place finds among all tiles is its tile
  pub long_is : (p : ℕ) → long g 0 p ≡ length (tile_at g p)
  unfolding long
  long_is p = rw from_all

  length_below : (n : ℕ) → length (tiles_below g n) ≡ sum_below (long g 0) n
  unfolding tiles_below sum_below
  length_below zero = refl
  length_below (suc n) = length-append (tiles_below g n) (tile_at g n) ∙ rw (length_below n, long_is n)

  pub tiles_long : length (tiles_below g (places g)) ≡ length g.tiles
  tiles_long = omega (arith, length_below (places g), left (length g.lengths) 0 (omega arith), start_zero g.lengths, sum_is g good)

  -- a place's tile ends within them
  pub below_fits : (p : ℕ) → p < places g → length (tiles_below g p) + long g 0 p ≤ length g.tiles
  below_fits p h =
      omega (
        arith,
        length_below p,
        length_below (places g),
        tiles_long,
        sum_more (long g 0) p (p + 1) refl,
        sum_rises (long g 0) (p + 1) (places g - (p + 1)) (places g) (omega arith),
      )
