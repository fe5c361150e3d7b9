-- `put_ahead` meets its contract: blanks for the digits that are missing, and the number.
use Prim.Native.Nat.{ℕ, ◌+◌, ◌-◌, ◌*◌, ◌<◌}
use mathlib.Core.Path.{◌≡◌}
use mathlib.Core.List.{List}
use native.Mathlib.Nat.{mul_comm}
use native.Mathlib.Omega.{arith}
use lib.ListN.{length, replicate}
use Rattle.profile_text.specs.Appended.{Appended}
use Rattle.profile_text.specs.Text.{decimal}
use Rattle.profile_text.specs.Page.{ahead, right_in}
use Rattle.profile_text.proofs.Laws.{append_more, length-decimal}
use Rattle.profile_text.proofs.Pages.{length-ahead}
use Rattle.profile_text.proofs.page.put_ahead.Goals as goal

module _ {old mid new : List ℕ} {at r s i w : ℕ} (l : i < 501) (e : w ≡ length (decimal (i * 20))) (h : Appended old at (replicate (6 - w) 32) mid r) (g : Appended mid r (decimal (i * 20)) new s) where
  text : Appended old at (ahead i) new s
  unfolding ahead right_in
  text = rw (mul_comm 20 i, ← e) (append_more h g)

  right : Appended old at (ahead i) new s × (s ≡ at + 6)
  right = (text, omega (arith, text.ends, length-ahead i l))

pub overflow_sub-width : goal.overflow_sub-width
overflow_sub-width c = omega (arith, c.width.ensures, length-decimal 4 (c.args.i * 20) (omega arith))

pub returns : goal.returns
returns c = let both = right c.requires.0 c.width.ensures c.put_many-next.ensures c.put_number.ensures in record { appended = both.0; value = both.1 }
