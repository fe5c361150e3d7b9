-- `put_rise` meets its contract: blanks, the sign, and the metres with their decimal.
use Prim.Native.Nat.{ℕ, suc, ◌+◌, ◌-◌, ◌/◌, ◌<◌}
use mathlib.Core.Path.{◌≡◌}
use mathlib.Core.List.{List, [], ◌∷◌}
use native.Mathlib.Omega.{arith}
use lib.ListN.{length, replicate}
use lib.IntN.{ℤ, nat_abs}
use lib.Signed.{mag}
use mir.Facts.{to_z-of_z}
use Rattle.profile_text.specs.Appended.{Appended}
use Rattle.profile_text.specs.Text.{decimal}
use Rattle.profile_text.specs.Page.{right_in, rise, sign, tenths}
use Rattle.profile_text.proofs.Laws.{append_more, length-decimal}
use Rattle.profile_text.proofs.Pages.{length-tenths, length-rise}
use Rattle.profile_text.proofs.page.put_rise.Goals as goal

module _ {old mid far new : List ℕ} {at r t s n w b : ℕ} (z : ℤ) (l : mag z < 32768) (n_is : n ≡ nat_abs z) (b_is : b ≡ sign z) (w_is : w ≡ length (decimal (n / 10))) (h : Appended old at (replicate (6 - w) 32) mid r) (g : Appended mid r (b ∷ []) far t) (k : Appended far t (tenths n) new s) where
  missing : 9 - suc (length (tenths n)) ≡ 6 - w
  missing = omega (arith, length-tenths n)

  text : Appended old at (right_in 9 (rise z)) new s
  unfolding right_in rise
  text = rw (← b_is, ← n_is, missing) (append_more h (append_more g k))

  right : Appended old at (right_in 9 (rise z)) new s × (s ≡ at + 9)
  right = (text, omega (arith, text.ends, length-rise z l))

pub overflow_sub-width : goal.overflow_sub-width
overflow_sub-width c = omega (arith, c.width.ensures, c.size-n.ensures.1, length-decimal 3 (c.size-n.result / 10) (omega (arith, c.size-n.ensures.1)))

pub returns : goal.returns
returns c =
    let f = c.ranges.z in
    let n = rw (to_z-of_z f) at c.size-n.ensures.0 in
    let s = rw (to_z-of_z f) at c.sign.ensures in
    let both = right c.args.z f.sfits n s c.width.ensures c.put_many-a.ensures c.put-b.ensures c.put_tenths.ensures in record { appended = both.0; value = both.1 }
