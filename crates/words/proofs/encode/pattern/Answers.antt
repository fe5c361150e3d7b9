-- `encode::pattern` meets its contract: what equals itself is no not-a-number.
use Rattle.num.proofs.OrderLaws.{differs, is_nan_lem}
use lib.Ieee.{to_bits}
use Rattle.words.proofs.encode.pattern.Goals as goal

pub returns-then-x : goal.returns-then-x
unfolding to_bits
returns-then-x c = rw (is_nan_lem c.args.x c.if-x.true)

pub float_to_bits-result : goal.float_to_bits-result
unfolding to_bits
float_to_bits-result c = rw (← differs, c.if-x.false) tt
