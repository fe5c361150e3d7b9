-- `pack::bytes::two_past` meets its contract. Past the end both bytes are 0; before it the two calls are the definition's.
use mathlib.Core.Path.{sym}
use Rattle.pack.specs.Bytes.{u16_at}
use Rattle.pack.proofs.Laws.{u16_past}
use Rattle.pack.proofs.bytes.two_past.Goals as goal

pub returns-then-bytes-at : goal.returns-then-bytes-at
returns-then-bytes-at c = sym (u16_past c.args.bytes.now c.args.at c.if-bytes-at.true)

pub returns : goal.returns
unfolding u16_at
returns c = rw (c.byte_at-low.ensures, c.byte_at-high.ensures)
