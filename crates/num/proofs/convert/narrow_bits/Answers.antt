-- `num::convert::narrow_bits` meets its contract: by the pattern's two fields.
use Rattle.std.proofs.Common.{◌≡◌, ℕ, suc, ◌-◌, ◌/◌, sym, ◌∙◌, arith}
use Rattle.num.proofs.Narrow.{narrow_small, narrow_normal}
use Rattle.num.proofs.convert.narrow_bits.Goals as goal

pub returns-then-field-eq0 : goal.returns-then-field-eq0
returns-then-field-eq0 c = c.nearest.ensures ∙ sym (narrow_small c.args.b c.requires c.if-field-eq0.true)

pub returns : goal.returns
returns c =
    let b : ℕ = c.args.b in
    let e : b / 4503599627370496 ≡ suc (b / 4503599627370496 - 1) = omega (arith, c.if-field-eq0.false) in
    c.nearest-2.ensures ∙ sym (narrow_normal b c.requires (b / 4503599627370496 - 1) e)
