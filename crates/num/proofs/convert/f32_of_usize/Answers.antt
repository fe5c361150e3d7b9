-- `num::convert::f32_of_usize` meets its contract: past 2 ^ 24 a whole number is 2 ^ 1074 times as many of the smallest doubles.
use Rattle.std.proofs.Common.{◌∙◌}
use Rattle.num.proofs.Nearest.{nearest_whole}
use Rattle.num.proofs.convert.f32_of_usize.Goals as goal

pub returns-else-n-le16777216 : goal.returns-else-n-le16777216
returns-else-n-le16777216 c = c.nearest.ensures ∙ nearest_whole c.args.n
