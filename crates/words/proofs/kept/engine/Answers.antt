-- `kept::engine` meets its contract: the slots, and all else.
use Rattle.std.proofs.Common.{sym}
use Rattle.words.proofs.KeptLaws.{accepted_is}
use Rattle.words.proofs.kept.engine.Goals as goal

pub returns : goal.returns
returns c = rw (c.both.ensures, c.slots.ensures, c.beside.ensures) (sym (accepted_is c.args.ws.now))
