-- `pack::bytes::u16_at` meets its contract: past the end both bytes are 0.
use mathlib.Core.Path.{sym}
use Rattle.pack.proofs.Laws.{u16_past}
use Rattle.pack.proofs.bytes.u16_at.Goals as goal

pub returns-then-bytes-at : goal.returns-then-bytes-at
returns-then-bytes-at c = sym (u16_past c.args.bytes.now c.args.at c.if-bytes-at.true)
