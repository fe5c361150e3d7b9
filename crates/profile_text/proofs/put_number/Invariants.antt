-- `put_number` meets its contract. The loop's invariant: n's digits are those of what is left, and then those that stand from `first` on.
-- As n has at most five and what is left has one, there is room for another (`room`). The measure is `first`.
use Prim.Native.Nat.{ℕ, ◌≤◌}
use mathlib.Core.Path.{◌≡◌}
use mathlib.Core.List.{List, ◌++◌}
use lib.ListN.{length, drop}
use Rattle.profile_text.specs.Text.{decimal}
use Rattle.profile_text.proofs.put_number.Given as goal

pub record Written (n : ℕ) (digits : List ℕ) (first left : ℕ) : Type 0 where
  pub within : first ≤ 5
  pub five : length digits ≡ 5
  pub less : left ≤ n
  pub all : decimal n ≡ decimal left ++ drop first digits

abbrev pub invariant-loop-left : goal.invariant-loop-left
invariant-loop-left l = Written l.n l.digits l.first l.left

abbrev pub decreases-loop-left : goal.decreases-loop-left
decreases-loop-left l = l.first
