-- `deliver::begins_at` meets its contract: each return by the length, and by whether there is room.
use Rattle.std.proofs.Common.{le-ltb}
use Rattle.words.proofs.BeginLaws.{pages_in}
use Rattle.words.proofs.deliver.begins_at.Goals as goal

pub returns-in-None : goal.returns-in-None
returns-in-None c = rw (pages_in c.args.ws.now, le-ltb _ _ c.if-len-gt-MAX_TILE_BYTES.false, ← c.victim_of.ensures, c.in-None.is)

pub returns-in-Some : goal.returns-in-Some
returns-in-Some c = rw (pages_in c.args.ws.now, le-ltb _ _ c.if-len-gt-MAX_TILE_BYTES.false, ← c.victim_of.ensures, c.in-Some.is)
