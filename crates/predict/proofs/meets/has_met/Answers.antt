-- `predict::meets::has_met` meets its contract. The loop's invariant: no place passed holds the tile. From place 96 on stands none.
use Prim.Native.Nat.{ℕ, ◌≤◌}
use mathlib.Core.Path.{◌≡◌, sym, ◌∙◌}
use mathlib.Core.Bool.{false, ◌&&◌}
use mathlib.Core.List.{List}
use native.Mathlib.Omega.{arith}
use lib.Dec.{ltb}
use borrow.Author.Tests.{lt-ltb, le-ltb}
use Rattle.pack.specs.declared.TileKey.{TileKey}
use Rattle.cache.proofs.SearchLaws.{lowest_start, lowest_hit, lowest_miss, lowest_past}
use Rattle.predict.specs.Meets.{tiles_of, is_met, has_met}
use Rattle.predict.proofs.meets.has_met.Goals as goal

past : (m : List ℕ) (key : TileKey) (k : ℕ) → 96 ≤ k → (ltb k 96 && is_met m k key) ≡ false
past m key k h = rw (le-ltb k 96 h)

pub loop-i-init : goal.loop-i-init
loop-i-init c = lowest_start _

pub returns-then-i-ge96 : goal.returns-then-i-ge96
unfolding has_met
returns-then-i-ge96 c =
    let at_loop = c.loop-i in
    let args = c.args in
    let m = args.met.now in
    rw (lowest_past _ at_loop.i (tiles_of m) (omega arith) (λ (k : ℕ) (h : at_loop.i ≤ k). past m args.key k (omega (arith, c.if-i-ge96.true)))
    at_loop.invariant)

pub returns-then-is_met : goal.returns-then-is_met
unfolding has_met
returns-then-is_met c =
    let at_loop = c.loop-i in
    let m = c.args.met.now in
    rw (lowest_hit _ at_loop.i (tiles_of m) c.loop-i-test.true at_loop.invariant
    (rw (lt-ltb _ _ c.if-i-ge96.false) (sym c.is_met.ensures ∙ c.if-is_met.true)))

pub loop-i-preserved : goal.loop-i-preserved
loop-i-preserved c =
    let at_loop = c.loop-i in
    lowest_miss _ at_loop.i at_loop.invariant (rw (lt-ltb _ _ c.if-i-ge96.false) (sym c.is_met.ensures ∙ c.if-is_met.false))

pub returns : goal.returns
unfolding has_met
returns c =
    let at_loop = c.loop-i in
    let m = c.args.met.now in
    let end : at_loop.i ≡ tiles_of m = omega arith in
    rw (rw end at at_loop.invariant)
