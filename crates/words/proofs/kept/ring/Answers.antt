-- `kept::ring` meets its contract: piece by piece.
use Rattle.words.proofs.KeptLaws.{ring_kept}
use Rattle.std.proofs.Common.{sym}
use Rattle.words.proofs.kept.ring.Goals as goal

pub returns : goal.returns
returns c = rw (c.both.ensures, c.held.ensures, c.keys.ensures, c.size-2.ensures, c.size.ensures) (sym (ring_kept c.args.ws.now))
