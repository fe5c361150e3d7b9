-- `kept::follower` meets its contract: piece by piece.
use Rattle.words.proofs.PieceLaws.{follower_held}
use Rattle.words.specs.Words.{follower_of}
use Rattle.std.proofs.Common.{sym}
use Rattle.words.proofs.kept.follower.Goals as goal

pub returns : goal.returns
unfolding follower_of
returns c = rw (c.both-4.ensures, c.both-3.ensures, c.both-2.ensures, c.both.ensures, c.held.ensures, c.ahead.ensures, c.due.ensures, c.matcher.ensures, c.sight.ensures, c.pattern.ensures, c.float.ensures, c.byte-2.ensures, c.byte.ensures) (sym (follower_held (follower_of c.args.ws.now) c.args.ws.now))
