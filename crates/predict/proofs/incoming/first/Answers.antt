-- `predict::incoming::first` meets its contract: its point's numbers are read as they are, and the literal as a whole number.
use mir.Syntax.{w32}
use Rattle.geo.proofs.Literals.{literal_0}
use Rattle.predict.proofs.Signed.{got}
use Rattle.predict.proofs.incoming.first.Goals as goal

pub returns : goal.returns
returns c = rw (literal_0, got w32 c.struct_told-1.given.0.1, got w32 c.struct_told-2-1.given.1.0.1)
