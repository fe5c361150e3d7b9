-- `circle::ratio` meets its contract: the powers of 2 cancel but for the difference of the shifts, which shifts a quotient of fewer than 64 digits.
use Rattle.std.proofs.Common.{rules}
use Rattle.angle.proofs.Ratio.{digits_positive, shift_at_most, shifted_ratio, far_ratio, pattern_ratio_most}
use Rattle.angle.proofs.circle.ratio.Goals as goal

pub nonzero_div-whole : goal.nonzero_div-whole
nonzero_div-whole c =
    digits_positive c.significand-a.ensures c.significand-b.ensures c.requires

pub overflow_sub-shift : goal.overflow_sub-shift
overflow_sub-shift c =
    shift_at_most c.significand-a.ensures c.significand-b.ensures c.requires

pub returns-then-shift-gt63 : goal.returns-then-shift-gt63
returns-then-shift-gt63 c =
    (far_ratio c.significand-a.ensures c.significand-b.ensures c.requires c.if-shift-gt63.true, search rules)

pub returns-else-shift-gt63 : goal.returns-else-shift-gt63
returns-else-shift-gt63 c =
    let given = c.requires in
    let e = shifted_ratio c.significand-a.ensures c.significand-b.ensures given in
    (e, rw e (pattern_ratio_most _ _ given.1.0 given.1.1))
