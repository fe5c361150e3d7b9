-- `crc::crc_octet` meets its contract: both entries are the sum that the remainder for 8 bits is.
use Prim.Native.Nat.{ℕ}
use mathlib.Core.Path.{ap₂, ◌∙◌}
use native.Mathlib.Omega.{arith}
use lib.Bits.{bit_xor}
use Rattle.crc.specs.Fcs.{add}
use Rattle.crc.proofs.Laws.{bits_xor, halves, takes_octet}
use Rattle.crc.proofs.crc_octet.Goals as goal

pub returns : goal.returns
unfolding halves
returns c =
    let x : ℕ = bit_xor c.args.c c.args.o in
    takes_octet c.args.c c.args.o (bit_xor c.entry-low.result c.entry-high.result) (omega (arith, c.ranges.c))
    (bits_xor 32 c.entry-low.result c.entry-high.result ∙ ap₂ add c.entry-low.ensures c.entry-high.ensures)
