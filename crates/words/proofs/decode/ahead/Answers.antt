-- `decode::ahead` meets its contract, field by field.
use Rattle.words.specs.Words.{ahead_of}
use Rattle.std.proofs.Common.{w32}
use Rattle.pack.proofs.Signed.{got}
use Rattle.words.proofs.decode.ahead.Goals as goal

pub returns : goal.returns
unfolding ahead_of
returns c = rw (got w32 c.signed_32.type_inv, c.signed_32.ensures, c.byte.ensures, c.float-2.ensures) (rw (c.float.ensures, c.size-2.ensures, c.size.ensures, c.long.ensures) (rw (c.end-end.ensures, c.behind-behind.ensures, c.samples-samples.ensures, c.current-matched.ensures)))
