-- `crc::crc_octets` meets its contract: at each turn the register has taken the octets before this one.
use lib.ListN.{take}
use Rattle.crc.specs.Register.{Takes}
use Rattle.crc.proofs.crc_octets.Given as goal

abbrev pub invariant-loop-octet : goal.invariant-loop-octet
invariant-loop-octet l = Takes l.value (take l.octet-index l.bytes) l.c
