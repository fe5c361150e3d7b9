-- `decode::float` meets its contract: a pattern above the infinity's, its sign aside, is not-a-number.
use Rattle.words.proofs.FloatLaws.{nan_is, nan_of}
use Rattle.std.proofs.Common.{sym, ◌∙◌, le-ltb}
use lib.Ieee.{binary32}
use lib.Ieee.Bits.{nan_bits_above}
use Rattle.words.proofs.decode.float.Goals as goal

pub returns-then-pattern-gt2139095040 : goal.returns-then-pattern-gt2139095040
returns-then-pattern-gt2139095040 c = nan_is ∙ sym (nan_of c.args.pattern c.if-pattern-gt2139095040.true)

pub float_from_bits-result : goal.float_from_bits-result
float_from_bits-result c = rw (nan_bits_above binary32 c.args.pattern, le-ltb 2139095040 _ c.if-pattern-gt2139095040.false) tt
