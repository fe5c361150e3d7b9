-- `matcher::score::at_node` meets its contract: each return by its tests, with the literals read as whole numbers.
use borrow.Author.Tests.{eq-eqb, ne_eqb}
use Rattle.geo.proofs.Literals.{literal_0, literal_1}
use Rattle.matcher.proofs.score.at_node.Goals as goal
use Rattle.matcher.proofs.score.at_node.Goals.{else-n-eq0-via-then-n-eq0+else-n, else-n-eq0-via-else-n-eq0}

pub returns-then-n : goal.returns-then-n
returns-then-n c = rw (← literal_0, eq-eqb _ _ c.if-n-eq0.true, c.if-n.true)

pub returns-then-n-vertices : goal.returns-then-n-vertices
returns-then-n-vertices c =
    elim c.else-n-eq0.branch [
      | else-n-eq0-via-then-n-eq0+else-n w ↦ rw (literal_1, ← literal_0, eq-eqb _ _ w.if-n-eq0.true, w.if-n.false, eq-eqb _ _ c.if-n-vertices.true)
      | else-n-eq0-via-else-n-eq0 w ↦ rw (literal_1, ne_eqb _ _ w.if-n-eq0.false, eq-eqb _ _ c.if-n-vertices.true)
    ]

pub returns : goal.returns
returns c =
    elim c.else-n-eq0.branch [
      | else-n-eq0-via-then-n-eq0+else-n w ↦ rw (← literal_0, eq-eqb _ _ w.if-n-eq0.true, w.if-n.false, ne_eqb _ _ c.if-n-vertices.false)
      | else-n-eq0-via-else-n-eq0 w ↦ rw (ne_eqb _ _ w.if-n-eq0.false, ne_eqb _ _ c.if-n-vertices.false)
    ]
