-- `num::convert::nearest` meets its contract: zero by itself, and any other n by its pattern.
use Rattle.std.proofs.Common.{ℕ, sym, ap, ◌∙◌}
use Rattle.num.specs.Convert.{nearest_to}
use Rattle.num.proofs.Pattern.{no_nan}
use Rattle.num.proofs.Nearest.{nearest_zero}
use Rattle.num.proofs.convert.nearest.Goals as goal

pub returns-then-n-eq0 : goal.returns-then-n-eq0
returns-then-n-eq0 c = nearest_zero c.args.i ∙ ap (λ (n : ℕ). nearest_to n c.args.i) (sym c.if-n-eq0.true)

pub float_from_bits-result : goal.float_from_bits-result
float_from_bits-result c = no_nan c.nearest_bits.result c.nearest_bits.ensures.1
