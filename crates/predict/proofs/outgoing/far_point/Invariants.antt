-- `predict::outgoing::far_point` meets its contract. The loop's invariant: the definition from here on is the definition from the start.
use Prim.Native.Nat.{◌-◌, ◌≤◌}
use mathlib.Core.Path.{◌≡◌}
use Rattle.predict.specs.Outgoing.{far_from, far_point}
use Rattle.predict.proofs.outgoing.far_point.Given as goal

abbrev pub invariant-loop-i : goal.invariant-loop-i
invariant-loop-i l = (1 ≤ l.i) × ((l.i ≤ l.last) × (far_from (l.last - l.i) l.leg l.bytes l.lon_um l.i ≡ far_point l.leg l.bytes l.lon_um))

abbrev pub decreases-loop-i : goal.decreases-loop-i
decreases-loop-i l = l.last - l.i
