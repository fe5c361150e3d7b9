-- `circle::significand` meets its contract: the fields of a pattern are its digits and its shift.
use Rattle.std.proofs.Common.{◌%◌, sym, ◌∙◌, mul-one, arith}
use Rattle.angle.proofs.Magnitude.{magnitude_small, magnitude_normal}
use Rattle.angle.proofs.circle.significand.Goals as goal

pub returns-then-field-eq0 : goal.returns-then-field-eq0
returns-then-field-eq0 c =
    let b = c.args.b in
    record {
      value = magnitude_small b c.requires c.if-field-eq0.true ∙ sym (mul-one (b % 8388608));
      below = omega arith;
      leading = λ h. absurd (omega arith);
      scale = omega arith;
    }

pub returns-else-field-eq0 : goal.returns-else-field-eq0
returns-else-field-eq0 c =
    record {
      value = magnitude_normal c.args.b c.requires (omega arith);
      below = omega arith;
      leading = λ h. omega arith;
      scale = omega arith;
    }
