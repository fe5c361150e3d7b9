-- `roads::is_given` meets its contract: each answer by its case.
use Rattle.terrain.specs.Roads.{is_given}
use borrow.Author.Tests.{eq-eqb, ne_eqb}
use Rattle.terrain.proofs.roads.is_given.Goals as goal

pub returns-then-m-ne1 : goal.returns-then-m-ne1
unfolding is_given
returns-then-m-ne1 c = rw (ne_eqb _ _ c.if-m-ne1.true)

pub returns : goal.returns
unfolding is_given
returns c = rw (eq-eqb _ _ c.if-m-ne1.false)
