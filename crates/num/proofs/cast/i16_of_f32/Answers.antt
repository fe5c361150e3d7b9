-- `cast::i16_of_f32` meets its contract: the wide cast, held to the range, is the narrow one.
use Rattle.std.proofs.Common.{◌≡◌, refl, arith, to_z, of_z, w16, w64, ◌∙◌}
use Rattle.std.proofs.lemmas.Int.{ints}
use Rattle.num.proofs.CastLaws.{signed_narrowed}
use Rattle.num.proofs.cast.i16_of_f32.Goals as goal

pub returns : goal.returns
returns c =
    let r = c.clamp.result in
    let back : to_z w16 (of_z w16 (to_z w64 (of_z w64 r))) ≡ r = omega (arith, ints, c.clamp.ensures.lower_bound, c.clamp.ensures.upper_bound) in
    back ∙ c.clamp.ensures.value ∙ signed_narrowed 15 (omega arith) _ _ c.i64_of_f32.ensures refl
