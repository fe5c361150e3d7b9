-- so many whole metres and decimetres since the last half make up the count
use Rattle.std.proofs.Common.{◌≤◌, ◌≡◌, ◌+◌, ◌*◌}
use Rattle.profile_cases.proofs.differing.Given as goal

abbrev pub invariant-loop-dm : goal.invariant-loop-dm
invariant-loop-dm l = (10 * l.metres + l.since ≡ l.dm + 5) × ((l.since ≤ 9) × (l.found ≤ 2 * l.dm))
