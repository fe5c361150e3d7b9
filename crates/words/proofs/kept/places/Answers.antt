-- `kept::places` meets its contract: piece by piece.
use Rattle.words.proofs.KeptLaws.{places_kept}
use Rattle.std.proofs.Common.{sym}
use Rattle.words.proofs.kept.places.Goals as goal

pub returns : goal.returns
returns c = rw (c.both.ensures, c.held.ensures, c.points.ensures, c.size-2.ensures, c.size.ensures) (sym (places_kept c.args.ws.now))
