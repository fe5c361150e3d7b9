-- `tile::check::entries_good` meets its contract. The loop's invariant: every entry passed names an edge.
use Prim.Native.Nat.{ℕ, ◌+◌, ◌-◌, ◌*◌}
use mathlib.Core.List.{List}
use mathlib.Core.Path.{sym}
use native.Mathlib.Omega.{arith}
use borrow.Author.Tests.{lt-ltb, le-ltb}
use Rattle.pack.proofs.Laws.{u16_slice}
use Rattle.tile.specs.Parse.{entry_ok}
use Rattle.tile.specs.Layout.{edges_of}
use Rattle.tile.proofs.Laws.{all_none, all_more, all_miss}
use Rattle.tile.proofs.check.entries_good.Goals as goal

pub loop-entry-init : goal.loop-entry-init
loop-entry-init c = all_none _

pub returns-then-edges-u16_at : goal.returns-then-edges-u16_at
unfolding entry_ok
returns-then-edges-u16_at c =
    let bytes : List ℕ = c.args.bytes.now in
    let entry : ℕ = c.loop-entry.entry in
    let at : ℕ = 32 + c.u16_at-nodes.result * 8 + entry * 2 in
    sym
    (all_miss _ entry (edges_of bytes * 2) (omega arith)
    (rw (
      ← c.u16_at-nodes.ensures,
      ← c.u16_at-edges.ensures,
      ← u16_slice bytes at (at + 2 - at) 0 at (omega arith) (omega arith),
      ← c.u16_at.ensures,
    )
    (le-ltb _ _ c.if-edges-u16_at.true)))

pub loop-entry-preserved : goal.loop-entry-preserved
unfolding entry_ok
loop-entry-preserved c =
    let bytes : List ℕ = c.args.bytes.now in
    let entry : ℕ = c.loop-entry.entry in
    let at : ℕ = 32 + c.u16_at-nodes.result * 8 + entry * 2 in
    all_more _ entry c.loop-entry.invariant
    (rw (
      ← c.u16_at-nodes.ensures,
      ← c.u16_at-edges.ensures,
      ← u16_slice bytes at (at + 2 - at) 0 at (omega arith) (omega arith),
      ← c.u16_at.ensures,
    )
    (lt-ltb _ _ c.if-edges-u16_at.false))
