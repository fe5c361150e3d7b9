-- `cast::u8_of_f32` meets its contract: the wide cast, held to the range, is the narrow one.
use Rattle.std.proofs.Common.{◌≡◌, refl, ap, nat_abs, arith, to_z, of_z, w64, ◌∙◌}
use Rattle.std.proofs.lemmas.Int.{ints}
use Rattle.num.proofs.CastLaws.{unsigned_narrowed}
use Rattle.num.proofs.cast.u8_of_f32.Goals as goal

pub returns : goal.returns
returns c =
    let r = c.clamp.result in
    let back : to_z w64 (of_z w64 r) ≡ r = omega (arith, ints, c.clamp.ensures.lower_bound, c.clamp.ensures.upper_bound) in
    ap nat_abs (back ∙ c.clamp.ensures.value ∙ unsigned_narrowed 8 (omega arith) _ _ c.i64_of_f32.ensures refl)
