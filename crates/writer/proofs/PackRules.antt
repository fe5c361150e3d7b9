-- Number 13 by its rules: one that is broken refuses the pack; the order of nodes at the first and at any other.
use Prim.Native.Nat.{ℕ, zero, suc, ◌-◌, ◌<◌}
use mathlib.Core.Path.{◌≡◌, refl, ap}
use mathlib.Core.Bool.{true, false, not}
use native.Mathlib.Omega.{arith}
use lib.ListN.{get_or}
use Rattle.tile.specs.declared.Node.{Node}
use Rattle.tile.specs.Order.{follows, is_below}
use Rattle.tile.proofs.Laws.{broken}
use Rattle.writer.specs.PackWritten.{GivenPack, pack_rules, pack_good}

pub pack_broken : (g : GivenPack) (k : ℕ) → get_or (pack_rules g) k true ≡ false → pack_good g ≡ false
unfolding pack_good
pack_broken g k e = broken k (pack_rules g) e

pub follows_first : (node : ℕ → Node) → follows node 0 ≡ true
unfolding follows
follows_first node = refl

pub follows_on : (node : ℕ → Node) (i : ℕ) → 0 < i → follows node i ≡ not (is_below (node i) (node (i - 1)))
unfolding follows
follows_on node zero h = absurd (omega arith)
follows_on node (suc i) h = ap (λ (k : ℕ). not (is_below (node (suc i)) (node k))) (omega arith)
