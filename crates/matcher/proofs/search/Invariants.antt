-- `matcher::search` meets its contract. The loop's invariant: the candidates kept so far are the definition's after as many turns, in eight places. An
-- edge out of reach adds nothing (`skips`), and neither does one that is too dear.
use Prim.Native.Nat.{ℕ}
use mathlib.Core.Path.{◌≡◌}
use lib.ListN.{length}
use Rattle.matcher.specs.declared.Kept.{Kept}
use Rattle.num.specs.Fold.{up_to}
use Rattle.matcher.specs.Tile as Tile
use Rattle.matcher.proofs.search.Given as goal

abbrev pub invariant-loop-number : goal.invariant-loop-number
invariant-loop-number l = (length l.d.v ≡ 8) × (l.d ≡ up_to (λ (x : Kept) (j : ℕ). Tile.edge_step x l.q l.id l.lon_um l.bytes j) l.initial.d l.number)
