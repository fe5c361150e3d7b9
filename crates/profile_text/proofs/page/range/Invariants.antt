-- `range` meets its contract. The loop's invariant: from what was found so far, the rest of the list has the lowest and the highest of all.
use Prim.Native.Nat.{ℕ}
use mathlib.Core.Path.{◌≡◌}
use mathlib.Core.List.{List}
use lib.ListN.{drop}
use lib.IntN.{ℤ}
use Rattle.profile_text.specs.Page.{lowest, highest, lowest_of, highest_of}
use Rattle.profile_text.proofs.page.range.Given as goal

pub record Ranged (zs rest : List ℤ) (low high : ℤ) (i : ℕ) : Type 0 where
  pub lows : lowest_of low (drop i rest) ≡ lowest zs
  pub highs : highest_of high (drop i rest) ≡ highest zs

abbrev pub invariant-loop-z : goal.invariant-loop-z
invariant-loop-z l = Ranged l.samples l.rest l.r.low l.r.high l.z-index
