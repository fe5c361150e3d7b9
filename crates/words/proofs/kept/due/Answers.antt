-- `kept::due` meets its contract: piece by piece.
use Rattle.words.proofs.PieceLaws.{due_held}
use Rattle.words.specs.Words.{due_of}
use Rattle.std.proofs.Common.{sym}
use Rattle.words.proofs.kept.due.Goals as goal

pub returns : goal.returns
unfolding due_of
returns c = rw (c.both-2.ensures, c.both.ensures, c.held-4.ensures, c.held-3.ensures, c.held-2.ensures, c.wide.ensures, c.short.ensures, c.held.ensures, c.has.ensures.value, c.maybe_key-need.ensures, c.time-t.ensures, c.time.ensures, c.bit-2.ensures.value, c.bit.ensures.value) (sym (due_held (due_of c.args.ws.now 603) c.args.ws.now))
