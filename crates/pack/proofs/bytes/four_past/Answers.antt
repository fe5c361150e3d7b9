-- `pack::bytes::four_past` meets its contract. Past the end both halves are 0; before it the two calls are the definition's.
use mathlib.Core.Path.{sym}
use Rattle.pack.specs.Bytes.{u32_at}
use Rattle.pack.proofs.Laws.{u32_past}
use Rattle.pack.proofs.bytes.four_past.Goals as goal

pub returns-then-bytes-at : goal.returns-then-bytes-at
returns-then-bytes-at c = sym (u32_past c.args.bytes.now c.args.at c.if-bytes-at.true)

pub returns : goal.returns
unfolding u32_at
returns c = rw (c.u16_at-low.ensures, c.u16_at-high.ensures)
