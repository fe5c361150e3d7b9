-- `num::convert::f32_of_f64` meets its contract: x is no NaN, so its pattern without the sign's bit is at most the infinity's, and the sign goes through.
use Rattle.std.proofs.Common.{ℕ, ◌-◌, T, sym, ap, ◌∙◌, subst, arith, rules}
use lib.Ieee.{Float, binary64, neg, fits, of_bits, to_bits}
use lib.Ieee.Compare.{differs_from_itself}
use lib.Ieee.Bits.{of_bits-to_bits, to_bits-lt}
use Rattle.num.specs.Convert.{narrow}
use Rattle.num.proofs.OrderLaws.{not_nan}
use Rattle.num.proofs.Narrow.{narrow-neg, bits_neg, bits_le, narrow-nan}
use Rattle.num.proofs.convert.f32_of_f64.Goals as goal

pub returns-then-x : goal.returns-then-x
returns-then-x c =
    let x : Float = c.args.x in
    narrow-nan ∙ sym (ap narrow (differs_from_itself x (subst T (sym c.if-x.true) tt)))

pub float_to_bits-b : goal.float_to_bits-b
float_to_bits-b c = not_nan c.args.x c.if-x.false

pub narrow_bits-requires : goal.narrow_bits-requires
narrow_bits-requires c =
    let x : Float = c.args.x in
    let f : T (fits binary64 x) = search rules in
    omega (arith, bits_le x f (not_nan x c.if-x.false))

pub returns-then-b-lt9223372036854775808 : goal.returns-then-b-lt9223372036854775808
returns-then-b-lt9223372036854775808 c = c.narrow_bits.ensures ∙ ap narrow (of_bits-to_bits binary64 c.args.x (search rules))

pub narrow_bits-requires-2 : goal.narrow_bits-requires-2
narrow_bits-requires-2 c =
    let x : Float = c.args.x in
    let f : T (fits binary64 x) = search rules in
    omega (arith, bits_le x f (not_nan x c.if-x.false), to_bits-lt binary64 x f)

pub returns : goal.returns
returns c =
    let x : Float = c.args.x in
    let f : T (fits binary64 x) = search rules in
    let b : ℕ = to_bits binary64 x in
    ap neg c.narrow_bits-2.ensures
    ∙ narrow-neg (of_bits binary64 (b - 9223372036854775808))
    ∙ ap narrow (bits_neg b c.if-b-lt9223372036854775808.false (to_bits-lt binary64 x f) ∙ of_bits-to_bits binary64 x f)
