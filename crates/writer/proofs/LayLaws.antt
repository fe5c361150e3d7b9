-- The tiles laid one behind the other: each place's tile is the part of the bytes given that its entry first names; one place more; the start; and
-- the end, where the entries are the directory and the tiles those of all places.
use Prim.Native.Nat.{ℕ, zero, suc, ◌+◌, ◌*◌, ◌≤◌, ◌<◌}
use mathlib.Core.Path.{◌≡◌, refl, sym, ap, ◌∙◌}
use mathlib.Core.Bool.{Bool, true, false, cond}
use mathlib.Core.List.{List, [], ◌∷◌, ◌++◌, append_assoc, append-nil}
use native.Mathlib.Numerals.{add-one}
use native.Mathlib.Omega.{arith}
use lib.Dec.{eqb, ltb}
use lib.ListN.{length, take, drop, replicate, length-append, length-drop, drop_of_length-le, replicate-append-replicate}
use lib.Seq.{take_at, drop_at, take_all, drop-drop, paste, length-take-le}
use borrow.Author.Tests.{eqb-true, lt-ltb, le-ltb, ltb-true, ltb-false}
use Rattle.pack.specs.declared.TileKey.{TileKey}
use Rattle.pack.specs.Bytes.{u32_at}
use Rattle.writer.specs.Fields.{Field, little_endian, put, puts, holding}
use Rattle.writer.specs.TileWritten.{field, fields_below}
use Rattle.writer.specs.PackWritten.{GivenPack, cut, sum_of, key_in, key_at, same_key, tile_of, tile_at, tiles_below, pack_good, places, data_start, entry_fields, directory_bytes}
use Rattle.writer.specs.PackSteps.{start_of, source_of, source, long, offset_of, offset, offset_at, entries, entry_bytes}
use Rattle.writer.proofs.FieldLaws.{length_little, below_none, below_more}
use Rattle.writer.proofs.Putting.{put_left}
use Rattle.writer.proofs.EntryBytes.{put_seam, length-entries, entries_same, put_offset, read_offset, read_long}
use Rattle.writer.proofs.PlaceLaws.{sum_is}
use Rattle.writer.proofs.TileSums.{long_is, tiles_long, below_fits}

-- ---- the tile of a key is the part of the bytes that starts at its source

tile_part : (ns bs whole : List ℕ) (at : ℕ) (key : TileKey) → drop at whole ≡ bs → at + length bs ≡ length whole → sum_of ns ≤ length bs
    → (take (length (tile_of (cut ns bs) key)) (drop (source_of ns bs at key) whole) ≡ tile_of (cut ns bs) key)
    × (source_of ns bs at key + length (tile_of (cut ns bs) key) ≤ length whole)
unfolding cut tile_of source_of sum_of
tile_part [] bs whole at key e l s = (refl, omega arith)
tile_part (n ∷ ns) bs whole at key e l s = go (same_key (key_in (take n bs)) key)
    (tile_part ns (drop n bs) whole (at + n) key
    (sym (drop-drop n at whole) ∙ ap (drop n) e)
    (omega (arith, length-drop n bs))
    (omega (arith, length-drop n bs)))
  where
    long_here : length (take n bs) ≡ n
    long_here = length-take-le n bs (omega arith)

    go : (b : Bool)
        → (take (length (tile_of (cut ns (drop n bs)) key)) (drop (source_of ns (drop n bs) (at + n) key) whole) ≡ tile_of (cut ns (drop n bs)) key)
        × (source_of ns (drop n bs) (at + n) key + length (tile_of (cut ns (drop n bs)) key) ≤ length whole)
        → (take (length (cond b (take n bs) (tile_of (cut ns (drop n bs)) key))) (drop (cond b at (source_of ns (drop n bs) (at + n) key)) whole)
        ≡ cond b (take n bs) (tile_of (cut ns (drop n bs)) key))
        × (cond b at (source_of ns (drop n bs) (at + n) key) + length (cond b (take n bs) (tile_of (cut ns (drop n bs)) key)) ≤ length whole)
    go true rest = (rw (long_here, e), omega (arith, long_here))
    go false rest = rest

module _ (g : GivenPack) (sum : sum_of g.lengths ≡ length g.tiles) (p : ℕ) where
  both : (take (length (tile_at g p)) (drop (source g 0 p) g.tiles) ≡ tile_at g p) × (source g 0 p + length (tile_at g p) ≤ length g.tiles)
  unfolding source start_of sum_of
  both = tile_part g.lengths g.tiles g.tiles 0 (key_at g p) refl (omega arith) (omega arith)

  pub source_tile : take (length (tile_at g p)) (drop (source g 0 p) g.tiles) ≡ tile_at g p
  source_tile = both.0

  pub source_fits : source g 0 p + length (tile_at g p) ≤ length g.tiles
  source_fits = both.1

-- ---- a copy where two parts meet

paste_seam : (xs ys s : List ℕ) (at n : ℕ) → length xs ≡ at → length s ≡ n → paste (xs ++ ys) at s n ≡ xs ++ (s ++ drop n ys)
paste_seam xs ys s at n e d =
    let whole : take n s ≡ s = take_all n s (omega arith) in
    let rest : drop (at + n) (xs ++ ys) ≡ drop n ys = sym (drop-drop n at (xs ++ ys)) ∙ ap (drop n) (drop_at xs ys at e) in
    rw (take_at xs ys at e, whole, rest) (append_assoc xs s (drop n ys))

-- ---- how the bytes stand once the places below n are done: `rest` is what stood behind the directory

abbrev pub Laid : GivenPack → List ℕ → ℕ → List ℕ → ℕ → Type 0
Laid g rest n out at =
    (out ≡ entries (offset_at g n) (long g 0) (places g) ++ (tiles_below g n ++ drop (length (tiles_below g n)) rest))
    × (at ≡ places g * 8 + length (tiles_below g n))

pub laid_none : (g : GivenPack) (rest out : List ℕ) (at : ℕ) → out ≡ entries (source g 0) (long g 0) (places g) ++ rest → at ≡ places g * 8 → Laid g rest 0 out at
unfolding tiles_below offset_at
laid_none g rest out at e d = (
  e ∙ ap (λ (xs : List ℕ). xs ++ rest)
      (entries_same (source g 0) (offset_at g 0) (long g 0) (long g 0) (places g)
      (λ q h. ap (λ (b : Bool). cond b (offset g q) (source g 0 q)) (sym (le-ltb q 0 (omega arith))))
      (λ q h. refl)),
  omega arith,
)

next_test : (q n : ℕ) → (q ≡ n → ⊥) → ltb q (n + 1) ≡ ltb q n
next_test q n d = go (ltb q n) refl
  where
    go : (b : Bool) → ltb q n ≡ b → ltb q (n + 1) ≡ b
    go true e = lt-ltb q (n + 1) (omega (arith, ltb-true q n e))
    go false e = le-ltb q (n + 1) (omega (arith, ltb-false q n e))

module _ (g : GivenPack) (good : pack_good g ≡ true) (small : 512 + (places g * 8 + length g.tiles) < 0x1_0000_0000) (sum : sum_of g.lengths ≡ length g.tiles)
    (rest : List ℕ) (n : ℕ) (h : n < places g) (out : List ℕ) (at : ℕ) (now : Laid g rest n out at)
  where
    here : offset_at g n n ≡ source g 0 n
    unfolding offset_at
    here = ap (λ (b : Bool). cond b (offset g n) (source g 0 n)) (le-ltb n n (omega arith))

    fits : source g 0 n + length (tile_at g n) ≤ length g.tiles
    fits = source_fits g sum n

    pub lay_source : u32_at out (n * 8) ≡ source g 0 n
    lay_source =
        ap (λ (xs : List ℕ). u32_at xs (n * 8)) now.0
        ∙ read_offset (offset_at g n) (long g 0) n (places g) _ h (omega (arith, here, fits))
        ∙ here

    pub lay_long : u32_at out (n * 8 + 4) ≡ length (tile_at g n)
    lay_long =
        ap (λ (xs : List ℕ). u32_at xs (n * 8 + 4)) now.0
        ∙ read_long (offset_at g n) (long g 0) n (places g) _ h (omega (arith, long_is g good n, fits))
        ∙ long_is g good n

    abbrev step : ℕ
    step = length (tile_at g n)

    offset_here : offset_at g (n + 1) n ≡ offset_of (512 + at) step
    unfolding offset_at offset
    offset_here =
        let place : data_start g + length (tiles_below g n) ≡ 512 + at = omega (arith, now.1) in
        ap (λ (b : Bool). cond b (offset_of (data_start g + length (tiles_below g n)) step) (source g 0 n)) (lt-ltb n (n + 1) (omega arith))
        ∙ ap (λ (k : ℕ). offset_of k step) place

    offset_other : (q : ℕ) → (q ≡ n → ⊥) → offset_at g (n + 1) q ≡ offset_at g n q
    unfolding offset_at
    offset_other q d = ap (λ (b : Bool). cond b (offset g q) (source g 0 q)) (next_test q n d)

    entry_put : put (field (n * 8) 4 (offset_of (512 + at) step)) out
        ≡ entries (offset_at g (n + 1)) (long g 0) (places g) ++ (tiles_below g n ++ drop (length (tiles_below g n)) rest)
    entry_put =
        let f : Field = field (n * 8) 4 (offset_of (512 + at) step) in
        ap (put f) now.0
        ∙ put_left f (entries (offset_at g n) (long g 0) (places g)) _ (omega (arith, length-entries (offset_at g n) (long g 0) (places g)))
        ∙ ap (λ (xs : List ℕ). xs ++ (tiles_below g n ++ drop (length (tiles_below g n)) rest))
        (put_offset (offset_at g n) (offset_at g (n + 1)) (long g 0) (places g) n (offset_of (512 + at) step) h offset_here offset_other)

    grown : tiles_below g (n + 1) ≡ tiles_below g n ++ tile_at g n
    unfolding tiles_below
    grown = rw add-one

    grown_long : length (tiles_below g (n + 1)) ≡ length (tiles_below g n) + step
    grown_long = ap length grown ∙ length-append (tiles_below g n) (tile_at g n)

    pub lay_step : Laid g rest (n + 1)
        (paste (put (field (n * 8) 4 (offset_of (512 + at) step)) out) at (take step (drop (source g 0 n) g.tiles)) step)
        (at + step)
    lay_step =
        let es : List ℕ = entries (offset_at g (n + 1)) (long g 0) (places g) in
        let ts : List ℕ = tiles_below g n in
        let tail : List ℕ = drop (length ts) rest in
        let seam : length (es ++ ts) ≡ at = omega (arith, length-append es ts, length-entries (offset_at g (n + 1)) (long g 0) (places g), now.1) in (
          ap (λ (xs : List ℕ). paste xs at (take step (drop (source g 0 n) g.tiles)) step) (entry_put ∙ sym (append_assoc es ts tail))
              ∙ ap (λ (xs : List ℕ). paste ((es ++ ts) ++ tail) at xs step) (source_tile g sum n)
              ∙ paste_seam (es ++ ts) tail (tile_at g n) at step seam refl
              ∙ append_assoc es ts (tile_at g n ++ drop step tail)
              ∙ ap (λ (xs : List ℕ). es ++ xs)
              (sym (append_assoc ts (tile_at g n) (drop step tail))
              ∙ ap (λ (xs : List ℕ). (ts ++ tile_at g n) ++ xs) (drop-drop step (length ts) rest)
              ∙ ap (λ (k : ℕ). (ts ++ tile_at g n) ++ drop k rest) (sym grown_long)
              ∙ ap (λ (xs : List ℕ). xs ++ drop (length (tiles_below g (n + 1))) rest) (sym grown)),
          omega (arith, now.1, grown_long),
        )

    pub lay_fits : at + step ≤ places g * 8 + length g.tiles
    lay_fits = omega (arith, now.1, below_fits g good n h, long_is g good n)

-- ---- the directory's fields are its entries

zeros : (k : ℕ) → replicate {A = ℕ} (8 + k) 0 ≡ replicate 4 0 ++ (replicate 4 0 ++ replicate k 0)
zeros k =
    sym (ap (λ (xs : List ℕ). replicate 4 0 ++ xs) (replicate-append-replicate 4 k 0) ∙ replicate-append-replicate 4 (4 + k) 0 ∙ ap (λ (n : ℕ). replicate n 0) sums)
  where
    sums : 4 + (4 + k) ≡ 8 + k
    sums = omega arith

module _ (g : GivenPack) where
  abbrev size : ℕ → ℕ
  size p = length (tile_at g p)

  entry_puts : (n : ℕ) (es xs : List ℕ) → length es ≡ n * 8
      → puts (entry_fields g n) (es ++ (replicate 4 0 ++ (replicate 4 0 ++ xs))) ≡ es ++ (little_endian 4 (offset g n) ++ (little_endian 4 (size n) ++ xs))
  unfolding entry_fields offset puts little_endian
  entry_puts n es xs e = go (eqb (size n) 0) refl
    where
      start : n * 8 + 0 ≡ n * 8
      start = omega arith

      place : ℕ
      place = data_start g + length (tiles_below g n)

      seam : length (es ++ little_endian 4 place) ≡ n * 8 + 4
      seam = omega (arith, length-append es (little_endian 4 place), length_little 4 place)

      go : (b : Bool) → eqb (size n) 0 ≡ b
          → puts (cond b [] (field (n * 8 + 0) 4 place ∷ field (n * 8 + 4) 4 (size n) ∷ [])) (es ++ (replicate 4 0 ++ (replicate 4 0 ++ xs)))
          ≡ es ++ (little_endian 4 (cond b 0 place) ++ (little_endian 4 (size n) ++ xs))
      go true q = rw (eqb-true (size n) 0 q)
      go false q =
          ap (λ (k : ℕ). put (field (n * 8 + 4) 4 (size n)) (put (field k 4 place) (es ++ (replicate 4 0 ++ (replicate 4 0 ++ xs))))) start
          ∙ ap (put (field (n * 8 + 4) 4 (size n)))
          (put_seam es (replicate 4 0) (replicate 4 0 ++ xs) (n * 8) 4 place e refl
          ∙ sym (append_assoc es (little_endian 4 place) (replicate 4 0 ++ xs)))
          ∙ put_seam (es ++ little_endian 4 place) (replicate 4 0) xs (n * 8 + 4) 4 (size n) seam refl
          ∙ append_assoc es (little_endian 4 place) (little_endian 4 (size n) ++ xs)

  entries_more : (n : ℕ) (xs : List ℕ)
      → entries (offset g) size n ++ (little_endian 4 (offset g n) ++ (little_endian 4 (size n) ++ xs)) ≡ entries (offset g) size (suc n) ++ xs
  unfolding entries
  entries_more n xs =
      ap (λ (ys : List ℕ). entries (offset g) size n ++ ys) (sym (append_assoc (little_endian 4 (offset g n)) (little_endian 4 (size n)) xs))
      ∙ sym (append_assoc (entries (offset g) size n) (entry_bytes (offset g n) (size n)) xs)

  fields_entries : (n k : ℕ) → puts (fields_below (entry_fields g) n) (replicate (n * 8 + k) 0) ≡ entries (offset g) size n ++ replicate k 0
  unfolding entries
  fields_entries zero k = below_none (entry_fields g) (replicate (0 * 8 + k) 0) ∙ first
    where
      same : 0 * 8 + k ≡ k
      same = omega arith

      first : replicate (0 * 8 + k) 0 ≡ entries (offset g) size 0 ++ replicate k 0
      first = rw same
  fields_entries (suc n) k =
      let more : suc n * 8 + k ≡ n * 8 + (8 + k) = omega arith in
      ap (λ (m : ℕ). puts (fields_below (entry_fields g) m) (replicate (suc n * 8 + k) 0)) (sym (add-one n))
      ∙ below_more (entry_fields g) n (replicate (suc n * 8 + k) 0)
      ∙ ap (λ (m : ℕ). puts (entry_fields g n) (puts (fields_below (entry_fields g) n) (replicate m 0))) more
      ∙ ap (puts (entry_fields g n)) (fields_entries n (8 + k) ∙ ap (λ (xs : List ℕ). entries (offset g) size n ++ xs) (zeros k))
      ∙ entry_puts n (entries (offset g) size n) (replicate k 0) (length-entries (offset g) size n)
      ∙ entries_more n (replicate k 0)

  pub directory_entries : directory_bytes g ≡ entries (offset g) size (places g)
  unfolding directory_bytes holding
  directory_entries =
      let whole : places g * 8 ≡ places g * 8 + 0 = omega arith in
      ap (λ (m : ℕ). puts (fields_below (entry_fields g) (places g)) (replicate m 0)) whole
      ∙ fields_entries (places g) 0
      ∙ append-nil (entries (offset g) size (places g))

-- ---- all places done

pub laid_all : (g : GivenPack) (good : pack_good g ≡ true) (rest out : List ℕ) (at : ℕ) → length rest ≡ length g.tiles → Laid g rest (places g) out at
    → out ≡ directory_bytes g ++ tiles_below g (places g)
unfolding offset_at
laid_all g good rest out at e now =
    let past : length rest ≤ length (tiles_below g (places g)) = omega (arith, tiles_long g good) in
    now.0
    ∙ ap (λ (xs : List ℕ). xs ++ (tiles_below g (places g) ++ drop (length (tiles_below g (places g))) rest))
    (entries_same (offset_at g (places g)) (offset g) (long g 0) (λ p. length (tile_at g p)) (places g)
    (λ q h. ap (λ (b : Bool). cond b (offset g q) (source g 0 q)) (lt-ltb q (places g) h))
    (λ q h. long_is g good q)
    ∙ sym (directory_entries g))
    ∙ ap (λ (xs : List ℕ). directory_bytes g ++ (tiles_below g (places g) ++ xs)) (drop_of_length-le rest past)
    ∙ ap (λ (xs : List ℕ). directory_bytes g ++ xs) (append-nil (tiles_below g (places g)))

-- ---- for the loop, which doesn't know the grid: whatever pack the bytes began as

abbrev pub Begun : List ℕ → ℕ → List ℕ → List ℕ → GivenPack → Type 0
Begun tiles count rest out g =
    (pack_good g ≡ true) × ((g.tiles ≡ tiles) × ((places g ≡ count) × (out ≡ entries (source g 0) (long g 0) (places g) ++ rest)))

abbrev pub AllLaid : List ℕ → ℕ → List ℕ → List ℕ → ℕ → List ℕ → ℕ → Type 0
AllLaid tiles count rest out₀ n out at = (g : GivenPack) → Begun tiles count rest out₀ g → Laid g rest n out at

pub begun : (g : GivenPack) (tiles : List ℕ) (count : ℕ) (dir rest : List ℕ) → pack_good g ≡ true → g.tiles ≡ tiles → places g ≡ count
    → dir ≡ entries (source g 0) (long g 0) (places g) → Begun tiles count (drop (count * 8) (dir ++ rest)) (dir ++ rest) g
begun g tiles count dir rest good t p e =
    let long_enough : length dir ≡ count * 8 = ap length e ∙ length-entries (source g 0) (long g 0) (places g) ∙ ap (λ (n : ℕ). n * 8) p in
    (good, (t, (p, rw (drop_at dir rest (count * 8) long_enough, e))))

pub laid_first : (tiles : List ℕ) (count : ℕ) (rest out : List ℕ) (at : ℕ) → at ≡ count * 8 → AllLaid tiles count rest out 0 out at
laid_first tiles count rest out at e g b = laid_none g rest out at b.1.1.1 (omega (arith, b.1.1.0))

module _ (tiles : List ℕ) (count : ℕ) (small : 512 + (count * 8 + length tiles) < 0x1_0000_0000) (rest out₀ : List ℕ) (n : ℕ) (h : n < count) (out : List ℕ) (at : ℕ) (now : AllLaid tiles count rest out₀ n out at)
    (g : GivenPack) (b : Begun tiles count rest out₀ g)
  where
    sums : sum_of g.lengths ≡ length g.tiles
    sums = sum_is g b.0

    tight : 512 + (places g * 8 + length g.tiles) < 0x1_0000_0000
    tight = omega (arith, b.1.1.0, ap length b.1.0)

    under : n < places g
    under = omega (arith, b.1.1.0)

    start_is : u32_at out (n * 8) ≡ source g 0 n
    start_is = lay_source g b.0 tight sums rest n under out at (now g b)

    size_is : u32_at out (n * 8 + 4) ≡ length (tile_at g n)
    size_is = lay_long g b.0 tight sums rest n under out at (now g b)

    pub laid_behind : n * 8 + 8 ≤ at
    laid_behind = omega (arith, under, (now g b).1)

    pub laid_source : u32_at out (n * 8) + u32_at out (n * 8 + 4) ≤ length tiles
    laid_source = omega (arith, start_is, size_is, source_fits g sums n, ap length b.1.0)

    pub laid_fits : at + u32_at out (n * 8 + 4) ≤ count * 8 + length tiles
    laid_fits = omega (arith, size_is, lay_fits g b.0 tight sums rest n under out at (now g b), ap length b.1.0, b.1.1.0)

    pub laid_next : (new : List ℕ) (end : ℕ)
        → new
        ≡ paste (put (field (n * 8) 4 (offset_of (512 + at) (u32_at out (n * 8 + 4)))) out) at (take (u32_at out (n * 8 + 4)) (drop (u32_at out (n * 8)) tiles)) (u32_at out (n * 8 + 4))
        → end ≡ at + u32_at out (n * 8 + 4)
        → Laid g rest (n + 1) new end
    laid_next new end e d =
        let made = rw (start_is, size_is, ← b.1.0) at e in
        let ends = rw size_is at d in
        rw (made, ends) (lay_step g b.0 tight sums rest n under out at (now g b))
