-- `pack::bytes::two` meets its contract.
use Rattle.pack.specs.Bytes.{u16_at}
use Rattle.pack.proofs.bytes.two.Goals as goal

pub returns : goal.returns
unfolding u16_at
returns c = rw (c.wide_16.ensures.value, c.wide_16-2.ensures.value)
