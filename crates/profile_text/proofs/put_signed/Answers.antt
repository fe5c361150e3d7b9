-- `put_signed` meets its contract: a '-' before the size of a number below 0.
use mathlib.Core.Path.{◌≡◌}
use mathlib.Core.Bool.{true}
use mathlib.Core.List.{◌∷◌}
use lib.IntN.{ℤ, pos, nat_abs}
use lib.Signed.{lt_z}
use mir.Facts.{to_z-of_z}
use Rattle.profile_text.specs.Text.{decimal, signed}
use Rattle.profile_text.proofs.Laws.{append_more}
use Rattle.profile_text.proofs.Order.{below}
use Rattle.profile_text.proofs.put_signed.Goals as goal

minus : (z : ℤ) → lt_z z (pos 0) ≡ true → signed z ≡ 45 ∷ decimal (nat_abs z)
minus z e = rw (below z e)

pub returns-then-z-lt0 : goal.returns-then-z-lt0
returns-then-z-lt0 c =
    let f = c.ranges.z in
    let taken = c.if-z-lt0.true in
    let text = append_more c.put-next.ensures c.put_number.ensures in
    rw (minus _ (rw (to_z-of_z f) at taken), ← (rw (to_z-of_z f) at c.size.ensures.0)) text
