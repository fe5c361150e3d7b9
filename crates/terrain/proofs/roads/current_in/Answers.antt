-- `roads::current_in` meets its contract: each answer by its case.
use Rattle.words.specs.Words.{current_by}
use borrow.Author.Tests.{eq-eqb, ne_eqb}
use Rattle.terrain.proofs.roads.current_in.Goals as goal

pub returns-then-ws-eq1 : goal.returns-then-ws-eq1
unfolding current_by
returns-then-ws-eq1 c = rw (eq-eqb _ _ c.if-ws-eq1.true, c.matched_in-found.ensures)

pub returns : goal.returns
unfolding current_by
returns c = rw (ne_eqb _ _ c.if-ws-eq1.false)
