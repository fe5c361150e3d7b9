-- `crossing::sides::meets` meets its contract: each return by the separations tried so far.
use mathlib.Core.Path.{sym, ◌∙◌}
use Rattle.crossing.specs.Sides.{meets}
use Rattle.crossing.proofs.sides.meets.Goals as goal

pub returns-then-apart : goal.returns-then-apart
unfolding meets
returns-then-apart c = rw (sym c.apart.ensures ∙ c.if-apart.true)

pub returns-then-apart-2 : goal.returns-then-apart-2
unfolding meets
returns-then-apart-2 c =
    rw (sym c.apart.ensures ∙ c.if-apart.false, sym c.apart-2.ensures ∙ c.if-apart-2.true)

pub returns-then-beside : goal.returns-then-beside
unfolding meets
returns-then-beside c =
    rw (
      sym c.apart.ensures ∙ c.if-apart.false,
      sym c.apart-2.ensures ∙ c.if-apart-2.false,
      sym c.beside.ensures ∙ c.if-beside.true,
    )

pub returns : goal.returns
unfolding meets
returns c =
    rw (
      sym c.apart.ensures ∙ c.if-apart.false,
      sym c.apart-2.ensures ∙ c.if-apart-2.false,
      sym c.beside.ensures ∙ c.if-beside.false,
      c.beside-2.ensures,
    )
