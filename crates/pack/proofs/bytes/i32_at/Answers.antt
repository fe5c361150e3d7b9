-- `pack::bytes::i32_at` meets its contract. Two calls, and the result read back from its bits.
use mir.Syntax.{w32}
use Rattle.pack.specs.Bytes.{i32_at}
use Rattle.pack.proofs.Signed.{got}
use Rattle.pack.proofs.bytes.i32_at.Goals as goal

pub returns : goal.returns
unfolding i32_at
returns c = rw (got w32 c.signed_32.type_inv, c.signed_32.ensures, c.u32_at.ensures)
