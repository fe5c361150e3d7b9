-- `kept::shared` meets its contract: piece by piece.
use Rattle.words.proofs.kept.shared.Goals as goal

pub returns : goal.returns
returns c = rw (c.both-2.ensures, c.both.ensures, c.cache.ensures, c.held-2.ensures, c.held.ensures, c.header-h.ensures, c.header.ensures, c.phase-2.ensures, c.phase.ensures)
