-- `circle::degrees` meets its contract: the magnitudes are those of the patterns with their signs cleared, and n * 2 ^ 1042 of the smallest doubles is n / 2 ^ 32.
use Rattle.std.proofs.Common.{◌≡◌, ℕ, ◌*◌, ◌%◌, ◌^◌, true, false, not, T, pos, sym, refl, ◌∙◌, ap₂, true≢false, mul_assoc, arith, pow_pos, rules}
use lib.Ieee.{Float, nan, inf, fin, binary32, is_nan, fits, round, of_int, of_bits, to_bits}
use lib.Ieee.Scale.{round_same}
use borrow.Author.Tests.{eqb-false}
use Rattle.num.specs.Order.{is_finite}
use Rattle.num.specs.Convert.{nearest_to}
use Rattle.angle.specs.Bearing as Bearing
use Rattle.angle.specs.Bearing.{degree, quarter}
use Rattle.angle.proofs.Magnitude.{bits_finite, magnitude_bits, zero_bits}
use Rattle.angle.proofs.circle.degrees.Goals as goal

south : of_bits binary32 1127481344 ≡ of_int binary32 (pos 180)
unfolding of_bits of_int
south = refl

finite_number : (x : Float) → is_finite x ≡ true → T (not (is_nan x))
unfolding is_nan
finite_number nan h = absurd (true≢false (sym h))
finite_number (inf s) h = tt
finite_number (fin s m e) h = tt

-- in 2 ^ -32 degree
nearest_degrees : (n : ℕ) → nearest_to n 1042 ≡ round binary32 false n degree
unfolding nearest_to
nearest_degrees n = round_same binary32 false (n * 2 ^ 1042) (2 ^ 1074) n degree (pow_pos 1074) (pow_pos 32) (mul_assoc n (2 ^ 1042) (2 ^ 32))

pub returns-then-is_sign_negative : goal.returns-then-is_sign_negative
unfolding Bearing.degrees of_bits
returns-then-is_sign_negative c = rw (c.if-east.true, ← c.is_sign_negative.ensures, c.if-is_sign_negative.true) south

pub returns-then-east : goal.returns-then-east
unfolding Bearing.degrees of_bits
returns-then-east c = rw (c.if-east.true, ← c.is_sign_negative.ensures, c.if-is_sign_negative.false)

pub float_to_bits-east : goal.float_to_bits-east
float_to_bits-east c = finite_number c.args.east c.requires.0

pub float_to_bits-north : goal.float_to_bits-north
float_to_bits-north c = finite_number c.args.north c.requires.1

pub quarter-a-requires : goal.quarter-a-requires
unfolding of_bits
quarter-a-requires c =
    let east : Float = c.args.east in
    let held : T (fits binary32 east) = search rules in
    let some : to_bits binary32 east % 2147483648 ≡ 0 → ⊥ =
    eqb-false (to_bits binary32 east % 2147483648) 0 (sym (zero_bits east held c.requires.0) ∙ c.if-east.false) in
    (omega arith, (bits_finite east held c.requires.0, bits_finite c.args.north (search rules) c.requires.1))

pub returns : goal.returns
unfolding Bearing.degrees of_bits
returns c =
    let e : quarter (Bearing.magnitude c.args.east) (Bearing.magnitude c.args.north) ≡ c.quarter-a.result =
    ap₂ quarter (magnitude_bits c.args.east (search rules) c.requires.0) (magnitude_bits c.args.north (search rules) c.requires.1)
    ∙ sym c.quarter-a.ensures.0 in
    rw (c.if-east.false, e, ← c.southern.ensures.0, ← c.western-b.ensures)
    (c.nearest.ensures ∙ nearest_degrees c.western-b.result)
