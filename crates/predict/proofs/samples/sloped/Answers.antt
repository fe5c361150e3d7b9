-- `predict::samples::sloped` meets its contract. The loop's invariant: what is written from here on ends as what is written from the start.
use mathlib.Core.Path.{sym, ap, ◌∙◌}
use native.Mathlib.Omega.{arith}
use lib.ListN.{length-set}
use mir.Syntax.{w16}
use mir.Val.{of_z, to_z}
use Rattle.predict.specs.Samples.{Filled, sample_at, slope}
use Rattle.predict.proofs.Signed.{got}
use Rattle.predict.proofs.SampleTurns.{fill_out, fill_stop, fill_on}
use Rattle.predict.proofs.samples.sloped.Goals as goal

pub returns-then-at-distance : goal.returns-then-at-distance
returns-then-at-distance c =
    let args = c.args in
    let l = c.loop-len in
    let past = rw c.sample_at-at.ensures at c.if-at-distance.true in
    let e = sym (fill_stop (slope args.base args.rise args.from args.span) args.distance _ l.len l.heights past) ∙ l.invariant.1 in
    record {
      value = ap (λ (x : Filled). x.len) e;
      heights_after = ap (λ (x : Filled). x.heights) e;
    }

pub loop-len-preserved : goal.loop-len-preserved
loop-len-preserved c =
    let args = c.args in
    let l = c.loop-len in
    let f = slope args.base args.rise args.from args.span in (
      omega (arith, l.invariant.0, length-set l.heights l.len (to_z w16 (of_z w16 c.held.result))),
      rw (got w16 c.held.type_inv, c.held.ensures, c.sample_at-at.ensures)
          (fill_on f args.distance _ _ l.len l.heights (omega (arith, length-set l.heights l.len (f (sample_at l.len))))
          (rw (← c.sample_at-at.ensures) c.if-at-distance.false)
          ∙ l.invariant.1),
    )

pub returns : goal.returns
returns c =
    let args = c.args in
    let l = c.loop-len in
    let e = sym (fill_out (slope args.base args.rise args.from args.span) args.distance _ l.len l.heights (omega arith)) ∙ l.invariant.1 in
    record {
      value = ap (λ (x : Filled). x.len) e;
      heights_after = ap (λ (x : Filled). x.heights) e;
    }
