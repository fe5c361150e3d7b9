-- `text` meets its contract. The loop's invariant: behind the heading stand the lines of the first i samples, of 12 bytes each at most.
-- The measure is what is left of the samples.
use Prim.Native.Nat.{◌+◌, ◌*◌, ◌≤◌}
use lib.ListN.{take}
use Rattle.profile_text.specs.Appended.{Appended}
use Rattle.profile_text.specs.Text.{lines, samples}
use Rattle.profile_text.proofs.text.Given as goal

abbrev pub invariant-loop-i : goal.invariant-loop-i
invariant-loop-i l = (l.at ≤ l.initial.at + 12 * l.i) × Appended l.initial.out l.initial.at (lines 0 (take l.i (samples l.input))) l.out l.at
