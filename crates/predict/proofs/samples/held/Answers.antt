-- `predict::samples::held` meets its contract: the cast alone holds to 16 bits.
use mathlib.Core.Path.{sym}
use mir.Syntax.{w16}
use Rattle.predict.proofs.Signed.{got}
use Rattle.predict.proofs.SampleTurns.{held_is}
use Rattle.predict.proofs.samples.held.Goals as goal

pub returns : goal.returns
returns c = rw (got w16 c.i16_of_f32.type_inv, c.i16_of_f32.ensures) (sym (held_is c.args.value))
