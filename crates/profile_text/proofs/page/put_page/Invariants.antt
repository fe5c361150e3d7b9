-- `put_page` meets its contract. The loop's invariant: behind the heading stand the lines of the samples up to i, 41 bytes each. The measure is how many are left.
use Prim.Native.Nat.{ℕ, ◌+◌, ◌-◌, ◌*◌, ◌≤◌}
use mathlib.Core.Path.{◌≡◌}
use mathlib.Core.List.{List}
use lib.ListN.{take, drop}
use lib.IntN.{ℤ}
use Rattle.profile_text.specs.Appended.{Appended}
use Rattle.profile_text.specs.Text.{lines_by}
use Rattle.profile_text.specs.Page.{lowest, highest, page_line}
use Rattle.profile_text.proofs.page.put_page.Given as goal

abbrev pub row : List ℤ → ℕ → ℤ → List ℕ
row zs = page_line (lowest zs) (highest zs)

pub record Lined (zs : List ℤ) (from to : ℕ) (old : List ℕ) (first : ℕ) (out : List ℕ) (at i : ℕ) : Type 0 where
  pub after : from ≤ i
  pub within : i ≤ to
  pub ends : at ≡ first + 41 * (i - from)
  pub text : Appended old first (lines_by (row zs) from (take (i - from) (drop from zs))) out at

abbrev pub invariant-loop-i : goal.invariant-loop-i
invariant-loop-i l = Lined l.samples l.from l.to l.initial.out l.initial.at l.out l.at l.i
