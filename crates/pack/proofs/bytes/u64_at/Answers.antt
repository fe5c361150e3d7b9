-- `pack::bytes::u64_at` meets its contract. Past the end both halves are 0; before it the two calls are the definition's.
use mathlib.Core.Path.{sym}
use Rattle.pack.specs.Bytes.{u64_at}
use Rattle.pack.proofs.Laws.{u64_past}
use Rattle.pack.proofs.bytes.u64_at.Goals as goal

pub returns-then-bytes-at : goal.returns-then-bytes-at
returns-then-bytes-at c = sym (u64_past c.args.bytes.now c.args.at c.if-bytes-at.true)

pub returns : goal.returns
unfolding u64_at
returns c = rw (c.u32_at-low.ensures, c.u32_at-high.ensures)
