-- `predict::incoming::back_at` meets its contract. The loop's invariant: what is left to look through has the same answer as the whole. A place
-- that is there reads the same whatever stands past the last one.
use Prim.Native.Nat.{ℕ, ◌-◌, ◌<◌, ◌≤◌}
use mathlib.Core.Path.{◌≡◌, refl, sym, ◌∙◌}
use mathlib.Core.Bool.{Bool, false}
use mathlib.Core.List.{List}
use native.Mathlib.Omega.{arith}
use lib.Ieee.{Float, binary32, nan, sub, le}
use lib.ListN.{length, get_or}
use borrow.Author.Tests.{lt-ltb, le-ltb}
use Rattle.geo.specs.Flat.{whole}
use Rattle.predict.specs.Incoming.{is_back, back_at}
use Rattle.predict.proofs.CostLiterals.{literal_25}
use Rattle.predict.proofs.TrackLaws.{highest_none, highest_hit, highest_miss}
use Rattle.predict.proofs.WayLaws.{at_any}
use Rattle.predict.proofs.incoming.back_at.Goals as goal
use Rattle.predict.proofs.incoming.back_at.Invariants.{of}

-- the code's test of a place that is there
tested : (v : List Float) (len : ℕ) (distance : Float) (i : ℕ) (b : Bool) → length v ≡ 16 → i < 16
    → le (whole 25) (sub binary32 distance (get_or v i nan)) ≡ b → is_back (of v len) distance i ≡ b
tested v len distance i b long below e = rw (lt-ltb i 16 below, at_any v i (whole 0) nan (omega arith)) e

past : (v : List Float) (len : ℕ) (distance : Float) (i : ℕ) → 16 ≤ i → is_back (of v len) distance i ≡ false
past v len distance i h = rw (le-ltb i 16 h)

pub returns-then-len-eq0 : goal.returns-then-len-eq0
unfolding back_at
returns-then-len-eq0 c = sym (highest_none _ (c.args.len - 1) (omega (arith, c.if-len-eq0.true)))

pub loop-i-init : goal.loop-i-init
unfolding back_at
loop-i-init c = refl

pub returns-then-distance-v : goal.returns-then-distance-v
returns-then-distance-v c =
    let at_loop = c.loop-i in
    let args = c.args in
    let hit =
    tested args.v.now args.len args.distance (at_loop.i - 1) _ c.sixteen_distances.ensures c.if-i-lt16.true
    (rw literal_25 at c.if-distance-v.true) in
    sym (highest_hit _ (at_loop.i - 1) at_loop.i (omega (arith, c.loop-i-test.true)) hit) ∙ at_loop.invariant

pub loop-i-preserved-else-distance-v : goal.loop-i-preserved-else-distance-v
loop-i-preserved-else-distance-v c =
    let at_loop = c.loop-i in
    let args = c.args in
    let missed =
    tested args.v.now args.len args.distance (at_loop.i - 1) _ c.sixteen_distances.ensures c.if-i-lt16.true
    (rw literal_25 at c.if-distance-v.false) in
    highest_miss _ (at_loop.i - 1) at_loop.i (omega (arith, c.loop-i-test.true)) missed ∙ at_loop.invariant

pub loop-i-preserved : goal.loop-i-preserved
loop-i-preserved c =
    let at_loop = c.loop-i in
    let args = c.args in
    let missed = past args.v.now args.len args.distance (at_loop.i - 1) c.if-i-lt16.false in
    highest_miss _ (at_loop.i - 1) at_loop.i (omega (arith, c.loop-i-test.true)) missed ∙ at_loop.invariant

pub returns : goal.returns
returns c =
    let at_loop = c.loop-i in
    sym (highest_none _ at_loop.i (omega (arith, c.loop-i-test.false))) ∙ at_loop.invariant
