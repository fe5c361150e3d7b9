-- `pack::grid::key_of` meets its contract. A difference of two i32 fits 64 bits, so what the callees get is the definition's.
use mathlib.Core.Path.{◌≡◌}
use native.Mathlib.Omega.{arith}
use lib.IntN.{ℤ, ◌-ℤ◌}
use mir.Facts.{to_z-of_z}
use mir.Syntax.{w32, w64}
use mir.Val.{SFits, to_z, of_z}
use borrow.Author.Tests.{ne_eqb}
use Rattle.pack.specs.Grid.{key_of}
use Rattle.pack.proofs.Signed.{range, fits, sub, sf, got, wide}
use Rattle.pack.proofs.grid.key_of.Goals as goal

-- the difference of two i32 in 64 bits, and as the code reads it back
module _ {a b : ℤ} (f : SFits w32 a) (g : SFits w32 b) where
  gap_fits : SFits w64 (a -ℤ b)
  gap_fits = fits w64 (a -ℤ b) (omega (arith, range f, range g, sub a b))

  gap_is : to_z w64 (of_z w64 (to_z w64 (of_z w64 (to_z w32 (of_z w32 a))) -ℤ to_z w64 (of_z w64 (to_z w32 (of_z w32 b))))) ≡ a -ℤ b
  gap_is = rw (wide f, wide g) (to_z-of_z gap_fits)

pub returns : goal.returns
unfolding key_of
returns c =
    rw (
      c.checked_of.ensures,
      got w64 c.floor_of-row.type_inv,
      got w64 c.floor_of-col.type_inv,
      c.floor_of-row.ensures,
      c.floor_of-col.ensures,
      gap_is c.ranges.lat (sf w32 c.args.header.south c.struct_told-1.given.1.0.1),
      gap_is c.ranges.lon (sf w32 c.args.header.west c.struct_told-2-1.given.1.1.0.1),
      ne_eqb _ _ c.if-tile-eq0.false,
    )
