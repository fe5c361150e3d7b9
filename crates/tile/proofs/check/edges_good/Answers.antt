-- `tile::check::edges_good` meets its contract. The loop's invariant: every edge passed is good.
use Prim.Native.Nat.{ℕ, ◌+◌, ◌-◌, ◌*◌}
use mathlib.Core.List.{List}
use mathlib.Core.Path.{sym, ◌∙◌}
use native.Mathlib.Omega.{arith}
use borrow.Author.Tests.{not-true, not-false}
use Rattle.tile.specs.Layout.{edges_of}
use Rattle.tile.proofs.Laws.{all_none, all_more, all_miss}
use Rattle.tile.proofs.Slices.{edge_slice}
use Rattle.tile.proofs.check.edges_good.Goals as goal

pub loop-index-init : goal.loop-index-init
loop-index-init c = all_none _

pub returns-then-not-edge_ok : goal.returns-then-not-edge_ok
returns-then-not-edge_ok c =
    let bytes : List ℕ = c.args.bytes.now in
    let index : ℕ = c.loop-index.index in
    let at : ℕ = 32 + c.u16_at-nodes.result * 8 + c.u16_at-edges.result * 4 + index * 16 in
    sym
    (all_miss _ index (edges_of bytes) (omega arith)
    (rw (
      ← c.u16_at-nodes.ensures,
      ← c.u16_at-edges.ensures,
      ← c.u32_at-vertices.ensures,
    )
    (sym (edge_slice bytes (at + 16 - at) _ _ at (omega arith)) ∙ sym c.edge_ok.ensures ∙ not-true _ c.if-not-edge_ok.true-raw)))

pub loop-index-preserved : goal.loop-index-preserved
loop-index-preserved c =
    let bytes : List ℕ = c.args.bytes.now in
    let index : ℕ = c.loop-index.index in
    let at : ℕ = 32 + c.u16_at-nodes.result * 8 + c.u16_at-edges.result * 4 + index * 16 in
    all_more _ index c.loop-index.invariant
    (rw (
      ← c.u16_at-nodes.ensures,
      ← c.u16_at-edges.ensures,
      ← c.u32_at-vertices.ensures,
    )
    (sym (edge_slice bytes (at + 16 - at) _ _ at (omega arith)) ∙ sym c.edge_ok.ensures ∙ not-false _ c.if-not-edge_ok.false-raw))
