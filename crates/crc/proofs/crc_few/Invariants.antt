-- `crc::crc_few` meets its contract: at each turn the register has taken the octets of the turns before, four each, and at the end those that are left.
use Prim.Native.Nat.{◌*◌, ◌^◌, ◌<◌}
use lib.ListN.{take}
use Rattle.crc.specs.Register.{Takes}
use Rattle.crc.proofs.crc_few.Given as goal

abbrev pub invariant-loop-turn : goal.invariant-loop-turn
invariant-loop-turn l = (l.c < 2 ^ 32) × Takes l.value (take (l.turn * 4) l.bytes) l.c
