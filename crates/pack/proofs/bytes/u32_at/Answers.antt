-- `pack::bytes::u32_at` meets its contract: past the end all four bytes are 0.
use mathlib.Core.Path.{sym}
use Rattle.pack.proofs.Laws.{u32_past}
use Rattle.pack.proofs.bytes.u32_at.Goals as goal

pub returns-then-bytes-at : goal.returns-then-bytes-at
returns-then-bytes-at c = sym (u32_past c.args.bytes.now c.args.at c.if-bytes-at.true)
