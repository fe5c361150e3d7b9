-- `crc::crc32` meets its contract: the register of 32 ones takes the octets, and its complement is the check sequence.
use mathlib.Core.Path.{sym}
use native.Mathlib.Omega.{arith}
use Rattle.crc.proofs.Laws.{takes_crc}
use Rattle.crc.proofs.Rule.{table, rule}
use Rattle.crc.proofs.crc32.Goals as goal

pub crc_update-requires : goal.crc_update-requires
unfolding table
crc_update-requires c = rule

pub returns : goal.returns
returns c =
    sym (takes_crc c.args.bytes.now c.crc_update.result (omega (arith, c.crc_update.type_inv)) c.crc_update.ensures)
