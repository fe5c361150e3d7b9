-- `crc::spread_on` meets its contract: at each turn what is pending stands for the octets of the words before.
use Prim.Native.Nat.{◌*◌}
use lib.ListN.{take}
use Rattle.crc.specs.Register.{SpreadsOn}
use Rattle.crc.proofs.spread_on.Given as goal

abbrev pub invariant-loop-word : goal.invariant-loop-word
invariant-loop-word l = SpreadsOn l.initial.q (take (l.word * 8) l.bytes) l.q
