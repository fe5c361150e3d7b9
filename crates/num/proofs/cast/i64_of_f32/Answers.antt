-- `cast::i64_of_f32` meets its contract: near 0 the cast to 32 bits is the same as that to 64.
use Rattle.std.proofs.Common.{T, sym, ◌∙◌, subst, arith, to_z-of_z, w32, w64, SFits}
use lib.Ieee.{of_bits, neg}
use mir.Facts.{sfits_widen}
use Rattle.num.proofs.WholeLaws.{Near, near_cast}
use Rattle.num.proofs.cast.i64_of_f32.Goals as goal

near : (c : goal.Then-x-2) → Near c.args.x
unfolding of_bits neg
near c = (subst T (sym c.if-x.true) tt, subst T (sym c.if-x-2.true) tt)

pub whole_part-requires : goal.whole_part-requires
whole_part-requires c = record { above_least = (near c).0; below_most = (near c).1 }

fits : (c : goal.After-whole_part) → SFits w32 c.whole_part.result
fits c = record { sfits = c.whole_part.type_inv }

pub returns-then-x-2 : goal.returns-then-x-2
returns-then-x-2 c =
    rw (to_z-of_z (fits c), to_z-of_z {w = w64} (sfits_widen tt (fits c)))
    (c.whole_part.ensures ∙ near_cast 31 63 (omega arith) (omega arith) c.args.x (near c.before))
