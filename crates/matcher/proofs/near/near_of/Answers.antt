-- `matcher::near::near_of` meets its contract: each return by the point's key, of which the arguments are read back from their bits.
use mathlib.Core.Path.{sym, ◌∙◌}
use mir.Syntax.{w32}
use Rattle.pack.proofs.Signed.{got}
use Rattle.matcher.specs.Near.{near_of}
use Rattle.matcher.proofs.near.near_of.Goals as goal

pub returns-in-Some : goal.returns-in-Some
unfolding near_of
returns-in-Some c =
    let keyed = rw (got w32 c.struct_told-1.given.0.1, got w32 c.struct_told-2-1.given.1.0.1) at c.key_of.ensures in
    rw (sym keyed ∙ c.in-Some.is, c.around.ensures)

pub returns-in-None : goal.returns-in-None
unfolding near_of
returns-in-None c =
    let keyed = rw (got w32 c.struct_told-1.given.0.1, got w32 c.struct_told-2-1.given.1.0.1) at c.key_of.ensures in
    rw (sym keyed ∙ c.in-None.is, c.no_keys.ensures)
