-- Numbers within their types: what the operations give is a single float, what is read of bytes has its bits, a key of the grid has 16, and a held height 32.
use Rattle.refusal.specs.declared.Refusal.{Refusal}
use Prim.Native.Nat.{ℕ, zero, suc, ◌+◌, ◌-◌, ◌*◌, ◌/◌, ◌^◌, ◌<◌, ◌≤◌, compare}
use mathlib.Core.Path.{◌≡◌, refl}
use mathlib.Core.Bool.{Bool, true, false, ◌&&◌, cond}
use native.Mathlib.Omega.{arith}
use lib.Dec.{ltb}
use lib.IntN.{ℤ, pos, negsuc}
use lib.Ieee.{Float, nan, inf, fin, binary32, is_nan, lt, eq, mul, units, odd, size, nearest, up, down}
use lib.Ieee.Fits.{odd-fits, cond-fits, nan-fits, inf-fits, add-fits, of_int-fits, round-fits, nearest-le, kept-lt}
use borrow.Author.Tests.{ltb-true, ltb-false}
use Rattle.std.specs.Prelude.{Ok, Err}
use Rattle.num.specs.Cast.{low16, low_bits}
use Rattle.num.specs.Order as Order
use Rattle.num.specs.Root.{square_root, near_root, whole_root, square}
use Rattle.angle.specs.Bearing as Bearing
use Rattle.geo.specs.Flat.{whole, length_of, bearing_of, figure_of}
use Rattle.pack.specs.Bytes.{signed32}
use Rattle.pack.specs.Grid.{in_grid}
use Rattle.pack.specs.declared.Header.{Header}
use Rattle.pack.specs.declared.TileKey.{TileKey}
use Rattle.pack.proofs.Laws.{row_below, col_below}
use Rattle.words.specs.Typed.{Signed, Height, Single, TypedKey, TypedHeader}

-- ---- floats

pub single_whole : (n : ℕ) → Single (whole n)
single_whole n = of_int-fits binary32 (pos n)

pub single_min : (a b : Float) → Single a → Single b → Single (Order.min a b)
single_min a b p q = cond-fits binary32 (is_nan a) b (cond (lt b a) b a) q (cond-fits binary32 (lt b a) b a q p)

pub single_max : (a b : Float) → Single a → Single b → Single (Order.max a b)
single_max a b p q = cond-fits binary32 (is_nan a) b (cond (lt a b) b a) q (cond-fits binary32 (lt a b) b a q p)

pub single_clamp : (x lo hi : Float) → Single x → Single lo → Single hi → Single (Order.clamp x lo hi)
single_clamp x lo hi p q r = cond-fits binary32 (lt x lo) lo (cond (lt hi x) hi x) q (cond-fits binary32 (lt hi x) hi x r p)

units_single : (q k : ℕ) → q ≤ 2 ^ 24 → Single (units binary32 false q k)
unfolding units
units_single q k h = by (ltb (q * 2 ^ k) (2 ^ 277)) refl
  where
    by : (b : Bool) → ltb (q * 2 ^ k) (2 ^ 277) ≡ b → Single (cond b (odd 25 false q k 149) (inf false))
    by true e = odd-fits binary32 25 false q k (omega arith) h (ltb-true (q * 2 ^ k) (2 ^ 277) e)
    by false e = inf-fits binary32 false

near_single : (n : ℕ) → Single (near_root binary32 n)
unfolding near_root
near_single n =
    let r = whole_root n in
    let k = size r - 24 in
    let q = r / 2 ^ k in
    let c = compare (4 * n) (square ((2 * q + 1) * 2 ^ k)) in
    units_single (nearest q c) k (omega (arith, nearest-le q c, kept-lt 24 r))

pub single_root : (x : Float) → Single x → Single (square_root binary32 x)
unfolding square_root
single_root nan h = nan-fits binary32
single_root (inf false) h = inf-fits binary32 false
single_root (inf true) h = nan-fits binary32
single_root (fin s zero e) h = h
single_root (fin true (suc m) e) h = nan-fits binary32
single_root (fin false (suc m) e) h = near_single (suc m * up e * 2 ^ (2 * 149) / down e)

pub single_length : (east north : Float) → Single (length_of east north)
unfolding length_of
single_length east north = single_root _ (add-fits binary32 (mul binary32 east east) (mul binary32 north north))

degrees_single : (east north : Float) → Single east → Single (Bearing.degrees east north)
unfolding Bearing.degrees
degrees_single east north h =
    cond-fits binary32 (eq east Bearing.zero) _ _ (cond-fits binary32 (Order.is_sign_negative north) _ _ (of_int-fits binary32 (pos 180)) h)
    (round-fits binary32 false (Bearing.angle east north) Bearing.degree)

figure_single : (b : Bool) (d : Float) → Single d → Single (figure_of (cond b (Ok d) (Err Refusal.OutOfRange)))
figure_single true d h = h
figure_single false d h = single_whole 0

pub single_bearing : (east north : Float) → Single east → Single (bearing_of east north)
unfolding bearing_of Bearing.bearing
single_bearing east north h = figure_single (Order.is_finite east && Order.is_finite north) _ (degrees_single east north h)

-- ---- whole numbers

pub signed_read : (n : ℕ) → n < 4294967296 → Signed (signed32 n)
signed_read n h = by (ltb n 2147483648) refl
  where
    by : (b : Bool) → ltb n 2147483648 ≡ b → Signed (cond b (pos n) (negsuc (4294967295 - n)))
    by true e = ltb-true n 2147483648 e
    by false e = omega (arith, ltb-false n 2147483648 e)

low_bits_lem : (z : ℤ) → low_bits z < 65536
low_bits_lem (pos n) = omega arith
low_bits_lem (negsuc n) = omega arith

pub height_low : (z : ℤ) → Height (low16 z)
height_low z = by (ltb (low_bits z) 32768) refl
  where
    by : (b : Bool) → ltb (low_bits z) 32768 ≡ b → Height (cond b (pos (low_bits z)) (negsuc (65535 - low_bits z)))
    by true e = ltb-true (low_bits z) 32768 e
    by false e = omega (arith, ltb-false (low_bits z) 32768 e, low_bits_lem z)

-- ---- keys

pub grid_key : (h : Header) (key : TileKey) → TypedHeader h → in_grid h key ≡ true → TypedKey key
grid_key h key t e = (omega (arith, row_below h key e, t.rows), omega (arith, col_below h key e, t.cols))
