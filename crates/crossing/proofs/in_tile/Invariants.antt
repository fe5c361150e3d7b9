-- `crossing::in_tile` meets its contract. The loop's invariant: no segment of an edge passed meets the transect.
use Prim.Native.Nat.{ℕ, ◌≤◌, ◌<◌}
use mathlib.Core.Bool.{false}
use mathlib.Core.Path.{◌≡◌}
use Rattle.tile.specs.Layout.{edge_of}
use Rattle.crossing.specs.Sides.{meets_at}
use Rattle.crossing.proofs.in_tile.Given as goal

abbrev pub invariant-loop-number : goal.invariant-loop-number
invariant-loop-number l =
    ((edge : ℕ) → edge < l.number → (s : ℕ) → s ≤ (edge_of l.bytes edge).vertices → meets_at l.a l.b l.header l.key l.bytes (edge_of l.bytes edge) s ≡ false)
