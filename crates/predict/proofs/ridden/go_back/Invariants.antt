-- `predict::ridden::go_back` meets its contract. The loop's invariant: what was done is the definition's loop up to here; once the road is over
-- it stays so.
use Prim.Native.Nat.{◌+◌, ◌-◌, ◌≤◌}
use mathlib.Core.Path.{◌≡◌}
use lib.ListN.{length}
use Rattle.predict.specs.Ridden.{backs_to}
use Rattle.predict.proofs.ridden.go_back.Given as goal

abbrev pub invariant-loop-i : goal.invariant-loop-i
invariant-loop-i l =
    (l.from ≤ l.i)
    × ((l.i - l.from ≤ l.last + 1 - l.from)
    × ((length l.heights ≡ length l.initial.heights)
    × (record { back = l.d; heights = l.heights }
    ≡ backs_to l.trip l.leg l.bytes l.lon_um l.reach l.from (record { back = l.initial.d; heights = l.initial.heights }) (l.i - l.from))))

abbrev pub decreases-loop-i : goal.decreases-loop-i
decreases-loop-i l = l.last + 1 - l.i
