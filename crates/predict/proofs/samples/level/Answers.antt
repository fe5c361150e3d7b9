-- `predict::samples::level` meets its contract. The loop's invariant: what is written from here on ends as what is written from the start.
use Prim.Native.Nat.{◌-◌}
use mathlib.Core.Path.{refl, sym, ap, ◌∙◌}
use native.Mathlib.Omega.{arith}
use lib.ListN.{length, length-set}
use mir.Facts.{to_z-of_z}
use mir.Syntax.{w16}
use mir.Val.{of_z, to_z}
use Rattle.predict.specs.Samples.{Filled}
use Rattle.predict.proofs.SampleTurns.{always, fill_out, fill_stop, fill_on}
use Rattle.predict.proofs.samples.level.Goals as goal

pub loop-len-init : goal.loop-len-init
loop-len-init c = (refl, refl)

pub shape_of-heights-then-at-distance : goal.shape_of-heights-then-at-distance
shape_of-heights-then-at-distance c = omega arith

pub returns-then-at-distance : goal.returns-then-at-distance
returns-then-at-distance c =
    let args = c.args in
    let l = c.loop-len in
    let past = rw c.sample_at-at.ensures at c.if-at-distance.true in
    let stop = fill_stop (always (to_z w16 (of_z w16 args.height))) args.distance _ l.len l.heights past in
    let e = rw (to_z-of_z c.ranges.height) at (sym stop ∙ l.invariant.1) in
    record {
      value = ap (λ (x : Filled). x.len) e;
      heights_after = ap (λ (x : Filled). x.heights) e;
    }

pub loop-len-smaller : goal.loop-len-smaller
loop-len-smaller c = omega (arith, c.loop-len.invariant.0)

pub loop-len-preserved : goal.loop-len-preserved
loop-len-preserved c =
    let args = c.args in
    let l = c.loop-len in
    let height = to_z w16 (of_z w16 args.height) in (
      omega (arith, l.invariant.0, length-set l.heights l.len height),
      fill_on (always height) args.distance _ _ l.len l.heights (omega (arith, length-set l.heights l.len height))
          (rw (← c.sample_at-at.ensures) c.if-at-distance.false)
          ∙ l.invariant.1,
    )

pub shape_of-heights : goal.shape_of-heights
shape_of-heights c = omega arith

pub returns : goal.returns
returns c =
    let args = c.args in
    let l = c.loop-len in
    let out = fill_out (always (to_z w16 (of_z w16 args.height))) args.distance (length l.heights - l.len) l.len l.heights (omega arith) in
    let e = rw (to_z-of_z c.ranges.height) at (sym out ∙ l.invariant.1) in
    record {
      value = ap (λ (x : Filled). x.len) e;
      heights_after = ap (λ (x : Filled). x.heights) e;
    }
