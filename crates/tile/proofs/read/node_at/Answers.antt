-- `tile::read::node_at` meets its contract. The loop's invariant: the search from here finds what the whole search finds.
use mathlib.Core.Path.{sym, ◌∙◌}
use native.Mathlib.Omega.{arith}
use Rattle.tile.specs.Readers as Readers
use Rattle.tile.proofs.Search.{search_step, search_none}
use Rattle.tile.proofs.read.node_at.Goals as goal

pub loop-low-init : goal.loop-low-init
unfolding Readers.node_at
loop-low-init c = (omega arith, (omega (arith, c.nodes_there-high.ensures), rw c.nodes_there-high.ensures))

pub loop-low-preserved-then-before : goal.loop-low-preserved-then-before
loop-low-preserved-then-before c = (
  omega arith,
  (
    omega arith,
    rw (
      search_step _ _ _ _ _ _ c.loop-low-test.true c.loop-low.invariant.1.0,
      ← c.node-n.ensures,
      sym c.before-in-loop-low.ensures ∙ c.if-before.true,
    )
        at c.loop-low.invariant.1.1,
  ),
)

pub loop-low-preserved : goal.loop-low-preserved
loop-low-preserved c = (
  omega arith,
  (
    omega arith,
    rw (
      search_step _ _ _ _ _ _ c.loop-low-test.true c.loop-low.invariant.1.0,
      ← c.node-n.ensures,
      sym c.before-in-loop-low.ensures ∙ c.if-before.false,
      sym c.before-else-before.ensures ∙ c.if-before-2.true,
    )
        at c.loop-low.invariant.1.1,
  ),
)

pub returns-else-before-2 : goal.returns-else-before-2
returns-else-before-2 c =
    rw (
      search_step _ _ _ _ _ _ c.loop-low-test.true c.loop-low.invariant.1.0,
      ← c.node-n.ensures,
      sym c.before-in-loop-low.ensures ∙ c.if-before.false,
      sym c.before-else-before.ensures ∙ c.if-before-2.false,
    )
    at c.loop-low.invariant.1.1

pub returns : goal.returns
returns c = sym (search_none _ _ _ _ _ _ c.loop-low-test.false) ∙ c.loop-low.invariant.1.1
