-- The tiles by number: where each starts, that it lies within the bytes, and the tiles from a number on.
use Prim.Native.Nat.{ℕ, zero, suc, ◌+◌, ◌-◌, ◌≤◌, ◌<◌}
use mathlib.Core.Path.{◌≡◌, refl}
use mathlib.Core.Bool.{true, ◌&&◌}
use mathlib.Core.List.{List, [], ◌∷◌}
use native.Mathlib.Numerals.{add-one}
use native.Mathlib.Omega.{arith}
use lib.ListN.{length, take, drop, get_or, drop_of_length-le}
use lib.Seq.{drop-cons, drop-drop, take-length}
use Rattle.writer.specs.PackWritten.{cut, sum_of, GivenPack, tile_is_good, tiles_good}
use Rattle.writer.specs.PackSteps.{start_of, numbered, tiles_from}

-- ---- where a tile starts

pub start_zero : (ns : List ℕ) → start_of ns 0 ≡ 0
unfolding start_of sum_of
start_zero ns = refl

pub start_more : (ns : List ℕ) (i : ℕ) → i < length ns → start_of ns (i + 1) ≡ start_of ns i + get_or ns i 0
unfolding start_of sum_of
start_more [] i h = absurd (omega arith)
start_more (n ∷ ns) zero h = omega arith
start_more (n ∷ ns) (suc i) h = rw add-one (omega (arith, rw add-one at (start_more ns i (omega arith))))

pub start_end : (ns : List ℕ) → start_of ns (length ns) ≡ sum_of ns
unfolding start_of
start_end ns = rw take-length

pub start_within : (ns : List ℕ) (i : ℕ) → i < length ns → start_of ns i + get_or ns i 0 ≤ sum_of ns
unfolding start_of sum_of
start_within [] i h = absurd (omega arith)
start_within (n ∷ ns) zero h = omega arith
start_within (n ∷ ns) (suc i) h = omega (arith, start_within ns i (omega arith))

-- the length of what lies between a sum's parts
pub between : (a n : ℕ) → a + n - a ≡ n
between a n = omega arith

-- ---- the tiles from a number on

pub from_all : (ns bs : List ℕ) → tiles_from ns bs 0 ≡ cut ns bs
unfolding tiles_from start_of sum_of
from_all ns bs = refl

pub from_more : (ns bs : List ℕ) (i : ℕ) → i < length ns → tiles_from ns bs i ≡ numbered ns bs i ∷ tiles_from ns bs (i + 1)
unfolding tiles_from cut
from_more ns bs i h = rw (drop-cons ns i 0 h, start_more ns i h, drop-drop, add-one)

pub from_end : (ns bs : List ℕ) (i : ℕ) → length ns ≤ i → tiles_from ns bs i ≡ []
unfolding tiles_from cut
from_end ns bs i h = rw (drop_of_length-le ns h)

-- ---- every one of them is good

pub good_more : (g : GivenPack) (ns bs : List ℕ) (i : ℕ) → i < length ns
    → tiles_good g (tiles_from ns bs i) ≡ (tile_is_good g (numbered ns bs i) && tiles_good g (tiles_from ns bs (i + 1)))
unfolding tiles_good
good_more g ns bs i h = rw (from_more ns bs i h)

pub good_end : (g : GivenPack) (ns bs : List ℕ) (i : ℕ) → length ns ≤ i → tiles_good g (tiles_from ns bs i) ≡ true
unfolding tiles_good
good_end g ns bs i h = rw (from_end ns bs i h)

-- the part of the bytes from a tile's start to its end
pub part_is : (ns bs : List ℕ) (i at : ℕ) → at ≡ start_of ns i → take (at + get_or ns i 0 - at) (drop at bs) ≡ numbered ns bs i
part_is ns bs i at e = rw (between at (get_or ns i 0), e)

-- and from the last tile to the first: k is the number behind i, end where tile i ends
pub start_back : (ns : List ℕ) (i k : ℕ) → i + 1 ≡ k → i < length ns → start_of ns k ≡ start_of ns i + get_or ns i 0
start_back ns i k next h = rw (← next) (start_more ns i h)
