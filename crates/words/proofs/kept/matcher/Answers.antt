-- `kept::matcher` meets its contract: piece by piece.
use Rattle.words.proofs.PieceLaws.{matcher_held}
use Rattle.words.specs.Words.{matcher_of}
use Rattle.std.proofs.Common.{sym}
use Rattle.words.proofs.kept.matcher.Goals as goal

pub returns : goal.returns
unfolding matcher_of
returns c = rw (c.both-2.ensures, c.both.ensures, c.held-3.ensures, c.held-2.ensures, c.held.ensures, c.pattern.ensures, c.float.ensures, c.byte-2.ensures, c.byte.ensures, c.challenger-d.ensures, c.challenger.ensures, c.current-c.ensures, c.current.ensures) (sym (matcher_held (matcher_of c.args.ws.now 581) c.args.ws.now))
