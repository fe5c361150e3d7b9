-- `put_bar` meets its contract: the bar, the blanks that fill it, and the line end.
use Prim.Native.Nat.{ℕ, ◌+◌, ◌-◌, ◌≤◌}
use mathlib.Core.Path.{◌≡◌}
use mathlib.Core.List.{List, [], ◌∷◌}
use native.Mathlib.Omega.{arith}
use lib.ListN.{replicate, length-replicate}
use Rattle.profile_text.specs.Appended.{Appended}
use Rattle.profile_text.specs.Page.{bar, left_in}
use Rattle.profile_text.proofs.Laws.{append_more}
use Rattle.profile_text.proofs.Pages.{length-bar}
use Rattle.profile_text.proofs.page.put_bar.Goals as goal

module _ {old mid far new : List ℕ} {at r t s n : ℕ} (l : n ≤ 25) (h : Appended old at (replicate n 35) mid r) (g : Appended mid r (replicate (25 - n) 32) far t) (k : Appended far t (10 ∷ []) new s) where
  text : Appended old at (bar n) new s
  unfolding bar left_in
  text = rw (length-replicate {A = ℕ} n 35) (append_more (append_more h g) k)

  filled : Appended old at (bar n) new s × (s ≡ at + 26)
  filled = (text, omega (arith, text.ends, length-bar n l))

pub returns : goal.returns
returns c = let both = filled c.requires.0 c.put_many-a.ensures c.put_many-b.ensures c.put.ensures in record { appended = both.0; value = both.1 }
