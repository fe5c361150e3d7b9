-- `num::convert::rounded_i64` meets its contract: the size is rounded, and the sign goes through the rounding.
use Rattle.std.proofs.Common.{ℕ, ap, ◌∙◌, to_z-of_z}
use lib.IntN.{nat_abs}
use lib.Ieee.{neg}
use Rattle.num.specs.Convert.{nearest_to}
use Rattle.num.proofs.Nearest.{nearest_below, nearest_above}
use Rattle.num.proofs.convert.rounded_i64.Goals as goal

pub returns-then-z-lt0 : goal.returns-then-z-lt0
returns-then-z-lt0 c =
    ap neg c.nearest-size.ensures
    ∙ ap (λ (n : ℕ). neg (nearest_to n 1074)) (c.unsigned_abs.ensures.value ∙ ap nat_abs (to_z-of_z c.ranges.z))
    ∙ nearest_below c.args.z (simp (to_z-of_z c.ranges.z) at c.if-z-lt0.true)

pub returns-else-z-lt0 : goal.returns-else-z-lt0
returns-else-z-lt0 c =
    c.nearest-size.ensures
    ∙ ap (λ (n : ℕ). nearest_to n 1074) (c.unsigned_abs.ensures.value ∙ ap nat_abs (to_z-of_z c.ranges.z))
    ∙ nearest_above c.args.z (simp (to_z-of_z c.ranges.z) at c.if-z-lt0.false)
