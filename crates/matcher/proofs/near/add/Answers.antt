-- `matcher::near::add` meets its contract: each return by where row and column lie, read back from their bits, and whether the key is new.
use mathlib.Core.Path.{sym, ◌∙◌}
use mir.Facts.{to_z-of_z}
use Rattle.matcher.specs.Near.{add}
use Rattle.matcher.proofs.near.add.Goals as goal

pub returns-then-has : goal.returns-then-has
unfolding add
returns-then-has c =
    let f = c.ranges in
    let keyed = rw (to_z-of_z f.row, to_z-of_z f.col) at c.checked_of.ensures in
    rw (sym keyed ∙ c.in-Some.is, sym c.has.ensures ∙ c.if-has.true)

pub returns-else-has : goal.returns-else-has
unfolding add
returns-else-has c =
    let f = c.ranges in
    let keyed = rw (to_z-of_z f.row, to_z-of_z f.col) at c.checked_of.ensures in
    rw (sym keyed ∙ c.in-Some.is, sym c.has.ensures ∙ c.if-has.false, c.push.ensures)

pub returns-in-None : goal.returns-in-None
unfolding add
returns-in-None c =
    let f = c.ranges in
    let keyed = rw (to_z-of_z f.row, to_z-of_z f.col) at c.checked_of.ensures in
    rw (sym keyed ∙ c.in-None.is)
