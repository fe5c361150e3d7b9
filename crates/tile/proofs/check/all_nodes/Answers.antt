-- `tile::check::all_nodes` meets its contract. The loop's invariant: every node passed is good and follows the one before it, and whether the next one
-- does is what comparing its place, as one number, with that of the one before tells.
use Prim.Native.Nat.{ℕ, ◌+◌, ◌-◌, ◌*◌, ◌<◌}
use mathlib.Core.Bool.{true, false}
use mathlib.Core.List.{List}
use mathlib.Core.Path.{◌≡◌, sym, ap, ap₂, ◌∙◌}
use native.Mathlib.Omega.{arith}
use borrow.Author.Tests.{not-true, not-false, lt-ltb, le-ltb}
use Rattle.pack.proofs.Laws.{u16_below}
use Rattle.tile.specs.Order.{follows}
use Rattle.tile.specs.Parse.{node_ok, all_below, nodes_ordered}
use Rattle.tile.specs.Layout.{nodes_of, node_start, node_of, place_at}
use Rattle.tile.proofs.Laws.{and_not, all_none, all_more, all_miss}
use Rattle.tile.proofs.Ordered.{follows_first, follows_next}
use Rattle.tile.proofs.Slices.{node_x, node_y, node_slice}
use Rattle.tile.proofs.check.all_nodes.Goals as goal

pub loop-index-init : goal.loop-index-init
loop-index-init c = (all_none _, (all_none _, follows_first (node_of c.args.bytes.now)))

pub returns-then-not-node_ok : goal.returns-then-not-node_ok
returns-then-not-node_ok c =
    let bytes : List ℕ = c.args.bytes.now in
    let size : ℕ = c.args.size in
    let index : ℕ = c.loop-index.index in
    let eight : ℕ = node_start index + 8 - node_start index in
    let bad : node_ok bytes size index ≡ false =
    sym (node_slice bytes eight size _ index (omega arith) (ap (λ (k : ℕ). k * 2) c.u16_at.ensures)) ∙ sym c.node_ok.ensures ∙ not-true _ c.if-not-node_ok.true-raw in
    rw (all_miss (node_ok bytes size) index (nodes_of bytes) (omega arith) bad)

pub returns-then-place-before : goal.returns-then-place-before
returns-then-place-before c =
    let bytes : List ℕ = c.args.bytes.now in
    let size : ℕ = c.args.size in
    let index : ℕ = c.loop-index.index in
    let inv = c.loop-index.invariant in
    let eight : ℕ = node_start index + 8 - node_start index in
    let place_is = ap₂ (λ (y x : ℕ). y * 65536 + x) (c.u16_at-y.ensures ∙ node_y bytes eight index (omega arith)) (c.u16_at-x.ensures ∙ node_x bytes eight index (omega arith)) in
    sym (and_not (all_below (node_ok bytes size) (nodes_of bytes)) (nodes_ordered bytes) (all_miss (follows (node_of bytes)) index (nodes_of bytes) (omega arith)
    (sym inv.1.1 ∙ rw (← place_is, lt-ltb _ _ c.if-place-before.true))))

pub loop-index-preserved : goal.loop-index-preserved
unfolding place_at
loop-index-preserved c =
    let bytes : List ℕ = c.args.bytes.now in
    let size : ℕ = c.args.size in
    let index : ℕ = c.loop-index.index in
    let inv = c.loop-index.invariant in
    let eight : ℕ = node_start index + 8 - node_start index in
    let x_below : (i : ℕ) → (node_of bytes i).x < 65536 = λ i. u16_below bytes (λ k. omega (arith, c.shared_slice_known-1.given k)) (node_start i) in
    let place_is = ap₂ (λ (y x : ℕ). y * 65536 + x) (c.u16_at-y.ensures ∙ node_y bytes eight index (omega arith)) (c.u16_at-x.ensures ∙ node_x bytes eight index (omega arith)) in
    let good : node_ok bytes size index ≡ true =
    sym (node_slice bytes eight size _ index (omega arith) (ap (λ (k : ℕ). k * 2) c.u16_at.ensures)) ∙ sym c.node_ok.ensures ∙ not-false _ c.if-not-node_ok.false-raw in (
      all_more _ index inv.0 good,
      (
        all_more (follows (node_of bytes)) index inv.1.0 (sym inv.1.1 ∙ rw (← place_is, le-ltb _ _ c.if-place-before.false)),
        rw (place_is) (follows_next (node_of bytes) index (x_below (index + 1)) (x_below index)),
      ),
    )
