-- `matcher::near::side` meets its contract. The differences of i32 and u32 fit 64 bits, so what is tested is the definition's.
use Prim.Native.Nat.{ℕ}
use mathlib.Core.Path.{◌≡◌}
use native.Mathlib.Omega.{arith}
use lib.IntN.{ℤ, pos, ◌-ℤ◌}
use mir.Facts.{to_z-of_z, to_z_pos}
use mir.Syntax.{w32, w64}
use mir.Val.{Fits, SFits, to_z, of_z}
use Rattle.pack.proofs.Signed.{range, fits, sub, wide}
use Rattle.matcher.proofs.near.side.Goals as goal

-- how far the point lies into the tile, in 64 bits and as the code reads it back
module _ {a b : ℤ} (f : SFits w32 a) (g : SFits w32 b) where
  into_fits : SFits w64 (a -ℤ b)
  into_fits = fits w64 (a -ℤ b) (omega (arith, range f, range g, sub a b))

  into_is : to_z w64 (of_z w64 (to_z w64 (of_z w64 (to_z w32 (of_z w32 a))) -ℤ to_z w64 (of_z w64 (to_z w32 (of_z w32 b))))) ≡ a -ℤ b
  into_is = rw (wide f, wide g) (to_z-of_z into_fits)

  -- and what is left of it
  module _ {n : ℕ} (h : Fits w32 n) where
    size_is : to_z w64 n ≡ pos n
    size_is = to_z_pos w64 {n = n} (omega arith)

    left_fits : SFits w64 (pos n -ℤ (a -ℤ b))
    left_fits = fits w64 (pos n -ℤ (a -ℤ b)) (omega (arith, range f, range g, sub a b, sub (pos n) (a -ℤ b)))

    left_is : to_z w64 (of_z w64 (to_z w64 n -ℤ (a -ℤ b))) ≡ pos n -ℤ (a -ℤ b)
    left_is = rw size_is (to_z-of_z left_fits)

pub returns-then-size-into : goal.returns-then-size-into
returns-then-size-into c =
    let f = c.ranges in
    let into = into_is f.at f.from in
    rw (
      rw (into, to_z-of_z f.reach) at c.if-into-reach.false,
      rw (into, left_is f.at f.from f.size, to_z-of_z f.reach) at c.if-size-into.true,
    )

pub returns : goal.returns
returns c =
    let f = c.ranges in
    let into = into_is f.at f.from in
    rw (
      rw (into, to_z-of_z f.reach) at c.if-into-reach.false,
      rw (into, left_is f.at f.from f.size, to_z-of_z f.reach) at c.if-size-into.false,
    )
