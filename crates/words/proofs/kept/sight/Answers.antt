-- `kept::sight` meets its contract: piece by piece.
use Rattle.words.proofs.PieceLaws.{sight_held}
use Rattle.words.specs.Words.{sight_of}
use Rattle.std.proofs.Common.{sym}
use Rattle.words.proofs.kept.sight.Goals as goal

pub returns : goal.returns
unfolding sight_of
returns c = rw (c.both-3.ensures, c.both-2.ensures, c.both.ensures, c.held-3.ensures, c.held-2.ensures, c.places.ensures, c.held.ensures, c.high.ensures, c.low.ensures, c.long-n.ensures, c.heading-h.ensures, c.heading.ensures, c.fix-f.ensures, c.fix.ensures) (sym (sight_held (sight_of c.args.ws.now 539) c.args.ws.now))
