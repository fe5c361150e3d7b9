-- `predict::start::part_way` meets its contract: a difference and a sum of two i32 fit 64 bits, and the callees answer by their definitions.
use mathlib.Core.Path.{◌≡◌}
use native.Mathlib.Omega.{arith}
use lib.IntN.{ℤ, ◌+ℤ◌}
use mir.Facts.{to_z-of_z}
use mir.Syntax.{w32, w64}
use mir.Val.{SFits, to_z, of_z}
use Rattle.pack.proofs.Signed.{range, fits, add, sf, got, wide}
use Rattle.predict.proofs.Signed.{gap_is}
use Rattle.predict.specs.Start.{part_way}
use Rattle.predict.proofs.start.part_way.Goals as goal

-- the sum of two i32 in 64 bits, and as the code reads it back
module _ {a b : ℤ} (f : SFits w32 a) (g : SFits w32 b) where
  sum_fits : SFits w64 (to_z w64 (of_z w64 (to_z w32 (of_z w32 a))) +ℤ to_z w64 (of_z w64 (to_z w32 (of_z w32 b))))
  sum_fits = rw (wide f, wide g) (fits w64 (a +ℤ b) (omega (arith, range f, range g, add a b)))

  sum_is : to_z w64 (of_z w64 (to_z w64 (of_z w64 (to_z w32 (of_z w32 a))) +ℤ to_z w64 (of_z w64 (to_z w32 (of_z w32 b))))) ≡ a +ℤ b
  sum_is = rw (to_z-of_z sum_fits, wide f, wide g)

pub returns : goal.returns
unfolding part_way
returns c =
    let part = c.i32_of_f32-part in
    rw (
      got w32 c.held.type_inv,
      ← rw (gap_is c.ranges.b c.ranges.a) at c.f32_of_i64-whole.ensures,
      ← part.ensures,
    ) (rw (sum_is c.ranges.a (sf w32 part.result part.type_inv)) at c.held.ensures)
