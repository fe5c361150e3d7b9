-- `root::sqrt` meets its contract: by the value's own pattern.
use Rattle.std.proofs.Common.{T, sym, refl, ap, ◌∙◌, arith, rules}
use lib.Ieee.{Float, binary32, fits, to_bits}
use lib.Ieee.Bits.{of_bits-to_bits, to_bits-lt}
use Rattle.num.specs.Root.{square_root}
use Rattle.num.proofs.OrderLaws.{is_nan_lem, not_nan}
use Rattle.num.proofs.Pattern.{no_nan}
use Rattle.num.proofs.RootRounded.{root_nan, root_else, root_zero, root_infinity, root_minus, zero_by_zero, own, fixed}
use Rattle.num.proofs.root.sqrt.Goals as goal

pub returns-then-x : goal.returns-then-x
returns-then-x c = root_nan c.args.x (is_nan_lem c.args.x c.if-x.true)

pub float_to_bits-b : goal.float_to_bits-b
float_to_bits-b c = not_nan c.args.x c.if-x.false

pub returns-then-b-eq0 : goal.returns-then-b-eq0
returns-then-b-eq0 c = fixed c.args.x 0 (search rules) c.if-b-eq0.true root_zero

pub float_from_bits-result : goal.float_from_bits-result
float_from_bits-result c = no_nan c.root_bits.result (omega arith)

pub returns-then-b-lt2139095040 : goal.returns-then-b-lt2139095040
returns-then-b-lt2139095040 c =
    let x : Float = c.args.x in
    c.root_bits.ensures.0 ∙ ap (square_root binary32) (of_bits-to_bits binary32 x (search rules))

pub returns-then-b-eq2139095040 : goal.returns-then-b-eq2139095040
returns-then-b-eq2139095040 c =
    let x : Float = c.args.x in
    fixed x 2139095040 (search rules) c.if-b-eq2139095040.true root_infinity

pub returns-then-b : goal.returns-then-b
returns-then-b c =
    let x : Float = c.args.x in
    fixed x 2147483648 (search rules) c.if-b.true root_minus

pub returns : goal.returns
returns c =
    let x : Float = c.args.x in
    let f : T (fits binary32 x) = search rules in
    zero_by_zero
    ∙ sym (ap (square_root binary32) (own x (to_bits binary32 x) f refl)
    ∙ root_else (to_bits binary32 x) (to_bits-lt binary32 x f) (omega (arith, c.if-b-lt2139095040.false, c.if-b-eq2139095040.false)) c.if-b.false)
