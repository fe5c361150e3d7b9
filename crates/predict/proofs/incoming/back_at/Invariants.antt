-- `predict::incoming::back_at` meets its contract. The loop's invariant: what is left to look through has the same answer as the whole. A place
-- that is there reads the same whatever stands past the last one.
use Prim.Native.Nat.{ℕ}
use mathlib.Core.Path.{◌≡◌}
use mathlib.Core.List.{List, []}
use lib.Ieee.{Float}
use Rattle.predict.specs.declared.History.{History}
use Rattle.predict.specs.Incoming.{is_back, highest, back_at}
use Rattle.predict.proofs.incoming.back_at.Given as goal

abbrev pub of : List Float → ℕ → History
of v len = record { lats = []; lons = []; distances = v; len = len }

abbrev pub invariant-loop-i : goal.invariant-loop-i
invariant-loop-i l = highest (λ (j : ℕ). is_back (of l.v l.len) l.distance j) l.i ≡ back_at (of l.v l.len) l.distance

abbrev pub decreases-loop-i : goal.decreases-loop-i
decreases-loop-i l = l.i
