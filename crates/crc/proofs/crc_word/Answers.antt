-- `crc::crc_word` meets its contract: its low 32 bits, and then its high ones.
use Prim.Native.Nat.{ℕ}
use native.Mathlib.Omega.{arith}
use lib.Bits.{and_mask}
use Rattle.crc.proofs.Laws.{takes_word}
use Rattle.crc.proofs.crc_word.Goals as goal

pub returns : goal.returns
returns c =
    let w : ℕ = c.args.w in
    takes_word c.args.c w c.crc_four-t.result c.crc_four.result (omega (arith, c.ranges.c)) (omega (arith, c.crc_four-t.type_inv))
    (rw (← and_mask w 32) c.crc_four-t.ensures) c.crc_four.ensures
