-- `geo::flat::metres` meets its contract. A difference of two i32 fits 64 bits, so what the callees get is the definition's.
use mathlib.Core.Path.{◌≡◌}
use native.Mathlib.Omega.{arith}
use lib.IntN.{ℤ, ◌-ℤ◌}
use mir.Facts.{to_z-of_z}
use mir.Syntax.{w32, w64}
use mir.Val.{SFits, to_z, of_z}
use Rattle.pack.proofs.Signed.{range, fits, sub, sf, wide}
use Rattle.geo.specs.Flat.{metres_of}
use Rattle.geo.proofs.flat.metres.Goals as goal

-- the difference of two i32 in 64 bits, and as the code reads it back
module _ {a b : ℤ} (f : SFits w32 a) (g : SFits w32 b) where
  gap_fits : SFits w64 (to_z w64 (of_z w64 (to_z w32 (of_z w32 a))) -ℤ to_z w64 (of_z w64 (to_z w32 (of_z w32 b))))
  gap_fits = rw (wide f, wide g) (fits w64 (a -ℤ b) (omega (arith, range f, range g, sub a b)))

  gap_is : to_z w64 (of_z w64 (to_z w64 (of_z w64 (to_z w32 (of_z w32 a))) -ℤ to_z w64 (of_z w64 (to_z w32 (of_z w32 b))))) ≡ a -ℤ b
  gap_is = rw (to_z-of_z gap_fits, wide f, wide g)

pub returns : goal.returns
unfolding metres_of
returns c =
    let p_lat = sf w32 c.args.p.lat c.struct_told-3-1.given.0.1 in
    let o_lat = sf w32 c.args.origin.lat c.struct_told-4-1.given.0.1 in
    let p_lon = sf w32 c.args.p.lon c.struct_told-1.given.1.0.1 in
    let o_lon = sf w32 c.args.origin.lon c.struct_told-2-1.given.1.0.1 in
    rw (
      rw (gap_is p_lon o_lon) at c.f32_of_i64-east.ensures,
      rw (gap_is p_lat o_lat) at c.f32_of_i64-north.ensures,
      c.f32_of_u32.ensures,
    )
