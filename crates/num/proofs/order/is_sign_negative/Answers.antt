-- `order::is_sign_negative` meets its contract: not-a-number has no sign, and std's word for the sign is the same.
use Rattle.std.proofs.Common.{◌∙◌, sym, not, ap}
use Rattle.num.proofs.OrderLaws.{sign_is, nan_sign}
use Rattle.num.proofs.order.is_sign_negative.Goals as goal

pub returns-then-not-is_nan : goal.returns-then-not-is_nan
returns-then-not-is_nan c = c.is_sign_negative.ensures ∙ sign_is _

pub returns-else-not-is_nan : goal.returns-else-not-is_nan
returns-else-not-is_nan c = ap not c.if-not-is_nan.false ∙ nan_sign _ (sym c.is_nan.ensures.value ∙ c.if-not-is_nan.false)
