-- `kept::ahead` meets its contract: piece by piece.
use Rattle.words.proofs.KeptLaws.{ahead_kept}
use Rattle.std.proofs.Common.{sym, w32}
use Rattle.pack.proofs.Signed.{got}
use Rattle.words.proofs.kept.ahead.Goals as goal

pub returns : goal.returns
returns c = rw (c.both-3.ensures, c.both-2.ensures, c.both.ensures, c.road.ensures, c.held-3.ensures, c.held-2.ensures, c.held.ensures, c.u32_of_i32.ensures, got w32 c.signed_32.type_inv, c.signed_32.ensures, c.current-c.ensures, c.current.ensures, c.high.ensures, c.low.ensures, c.long-n.ensures) (sym (ahead_kept c.args.ws.now))
