-- `cast::whole_part` meets its contract: `whole_part` says what the shifted digits are, and they are few enough for every step.
use Rattle.std.proofs.Common.{◌≡◌, ℕ, zero, suc, ◌/◌, ◌%◌, ◌^◌, ◌<◌, pos, neg_ℤ, mod-lt, arith, pow_pos, to_z-of_z, w32, SFits, to_z, rules, le-leb}
use lib.IntN.{+ℤ_idl}
use lib.Ieee.{binary32, to_bits}
use mir.Facts.{to_z_pos}
use borrow.Author.Tests.{lt-leb}
use Rattle.num.proofs.WholeLaws.{left, left_lt, field_le, whole_part}
use Rattle.num.proofs.cast.whole_part.Goals as goal

pub overflow_sub-size : goal.overflow_sub-size
overflow_sub-size c = field_le c.args.x (search rules) (c.requires.above_least, c.requires.below_most)

-- what is left of the digits, as the code has it
abbrev rest : goal.Start → ℕ
rest c = let size : ℕ = to_bits binary32 c.args.x % 2147483648 in left (size / 8388608) (size % 8388608)

rest_lt : (c : goal.Start) → rest c < 2 ^ 24
rest_lt c = let size : ℕ = to_bits binary32 c.args.x % 2147483648 in left_lt (size / 8388608) (size % 8388608) (mod-lt size (pow_pos 23))

module _ (n : ℕ) (h : n < 2 ^ 24) where
  plain_fits : SFits w32 (pos n)
  plain_fits = record { sfits = omega arith }

  plain : to_z w32 n ≡ pos n
  plain = to_z_pos w32 (omega arith)

negated_fits : (n : ℕ) → n < 2 ^ 24 → SFits w32 (neg_ℤ (pos n))
negated_fits zero h = record { sfits = omega arith }
negated_fits (suc n) h = record { sfits = omega arith }

pub returns-then-bits-lt2147483648 : goal.returns-then-bits-lt2147483648
returns-then-bits-lt2147483648 c =
    rw (c.cut.ensures, plain (rest c.before.before) (rest_lt c.before.before))
    (rw (lt-leb (2 ^ 31) (to_bits binary32 c.args.x) c.if-bits-lt2147483648.true) at (whole_part c.args.x (search rules) (c.requires.above_least, c.requires.below_most)))

pub returns : goal.returns
returns c =
    rw (c.cut.ensures, plain (rest c.before.before) (rest_lt c.before.before), +ℤ_idl (neg_ℤ (pos (rest c.before.before))), to_z-of_z (negated_fits (rest c.before.before) (rest_lt c.before.before)))
    (rw (le-leb (2 ^ 31) (to_bits binary32 c.args.x) c.if-bits-lt2147483648.false) at (whole_part c.args.x (search rules) (c.requires.above_least, c.requires.below_most)))
