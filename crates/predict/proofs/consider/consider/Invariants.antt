-- `predict::consider::consider` meets its contract. The loop's invariant: the ways on so far are the definition's after as many entries. An entry
-- adds nothing once there are twelve (`full`) or where it is no way on (`skips`); one that is a way on stands in the next place (`writes`).
use Prim.Native.Nat.{ℕ, ◌+◌, ◌-◌, ◌≤◌}
use mathlib.Core.Path.{◌≡◌, sym}
use mathlib.Core.List.{List}
use native.Mathlib.Omega.{arith}
use Rattle.num.specs.Fold.{up_to}
use Rattle.num.proofs.FoldLaws.{up_turn}
use Rattle.pack.specs.declared.TileKey.{TileKey}
use Rattle.tile.specs.Layout as Layout
use Rattle.tile.specs.declared.Incident.{Incident}
use Rattle.predict.specs.declared.Arrival.{Arrival}
use Rattle.predict.specs.declared.Choices.{Choices}
use Rattle.predict.specs.Consider.{consider_step}
use Rattle.predict.proofs.consider.consider.Given as goal

pub one_more : (i first : ℕ) → first ≤ i → i + 1 - first ≡ (i - first) + 1
one_more i first h = omega arith

pub back : (i first : ℕ) → first ≤ i → first + (i - first) ≡ i
back i first h = omega arith

module _ (a : Arrival) (v bs : List ℕ) (key : TileKey) (start : Choices) (first : ℕ) where
  abbrev pub so_far : ℕ → Choices
  so_far n = up_to (λ (x : Choices) (j : ℕ). consider_step x a v bs key (Layout.entry_of bs (first + j))) start n

  pub turn : (d after : Choices) (i : ℕ) (entry : Incident) → first ≤ i → d ≡ so_far (i - first) → entry ≡ Layout.entry_of bs i
      → consider_step d a v bs key entry ≡ after
      → after ≡ so_far (i + 1 - first)
  turn d after i entry h inv read step = rw (one_more i first h, up_turn, back i first h, ← inv, ← read) (sym step)

abbrev pub invariant-loop-i : goal.invariant-loop-i
invariant-loop-i l = (l.initial.i ≤ l.i) × ((l.i - l.initial.i ≤ l.end - l.initial.i) × (l.d ≡ so_far l.a l.visited l.bytes l.key l.initial.d l.initial.i (l.i - l.initial.i)))

abbrev pub decreases-loop-i : goal.decreases-loop-i
decreases-loop-i l = l.end - l.i
