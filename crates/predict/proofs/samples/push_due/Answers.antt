-- `predict::samples::push_due` meets its contract: where no sample is due, none is written whatever room there is; else by the answer of `push_on`.
use Prim.Native.Nat.{◌-◌}
use mathlib.Core.Path.{sym, ap}
use lib.ListN.{length}
use mir.Facts.{to_z-of_z}
use Rattle.predict.specs.Samples.{Pushed}
use Rattle.predict.proofs.SampleTurns.{push_stop}
use Rattle.predict.proofs.samples.push_due.Goals as goal

pub returns-then-sample_at-distance : goal.returns-then-sample_at-distance
returns-then-sample_at-distance c =
    let args = c.args in
    let heights = args.heights.now in
    let len = args.m.len in
    let past = rw c.sample_at.ensures at c.if-sample_at-distance.true in
    let stop = sym (push_stop args.m args.distance args.z (length heights - len) len heights past) in
    rw (to_z-of_z c.ranges.z) (record {
      value = ap (λ (p : Pushed). p.mark) stop;
      heights_after = ap (λ (p : Pushed). p.heights) stop;
    })
