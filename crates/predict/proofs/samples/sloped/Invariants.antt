-- `predict::samples::sloped` meets its contract. The loop's invariant: what is written from here on ends as what is written from the start.
use Prim.Native.Nat.{◌-◌}
use mathlib.Core.Path.{◌≡◌}
use lib.ListN.{length}
use Rattle.predict.specs.Samples.{filled, slope}
use Rattle.predict.proofs.samples.sloped.Given as goal

abbrev pub invariant-loop-len : goal.invariant-loop-len
invariant-loop-len l =
    (length l.heights ≡ length l.initial.heights)
    × (filled (slope l.base l.rise l.from l.span) (length l.heights - l.len) l.distance l.len l.heights
    ≡ filled (slope l.base l.rise l.from l.span) (length l.initial.heights - l.first) l.distance l.first l.initial.heights)

abbrev pub decreases-loop-len : goal.decreases-loop-len
decreases-loop-len l = length l.initial.heights - l.len
