-- `width` meets its contract. The loop's invariant: the digits counted and those of what is left are one more than n has. The measure is what is left.
use Prim.Native.Nat.{◌+◌, ◌≤◌}
use mathlib.Core.Path.{◌≡◌}
use lib.ListN.{length}
use Rattle.profile_text.specs.Text.{decimal}
use Rattle.profile_text.proofs.page.width.Given as goal

abbrev pub invariant-loop-left : goal.invariant-loop-left
invariant-loop-left l = (l.left ≤ l.n) × (l.digits + length (decimal l.left) ≡ length (decimal l.n) + 1)

abbrev pub decreases-loop-left : goal.decreases-loop-left
decreases-loop-left l = l.left
