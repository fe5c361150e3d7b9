-- `put_line` meets its contract: the four parts of a line, one behind the other.
use Prim.Native.Nat.{◌<◌}
use mathlib.Core.Path.{◌≡◌, ap, ◌∙◌}
use native.Mathlib.Nat.{mul_comm}
use native.Mathlib.Omega.{arith}
use lib.IntN.{ℤ}
use lib.Signed.{mag}
use mir.Facts.{to_z-of_z}
use mir.Syntax.{w16}
use mir.Val.{SFits, to_z, of_z}
use Rattle.profile_text.specs.Text.{whole_metres, line}
use Rattle.profile_text.proofs.Laws.{append_more, number_ends, length_metres}
use Rattle.profile_text.proofs.put_line.Goals as goal

rise : {dm r : ℤ} → SFits w16 dm → mag r < 32768 → r ≡ whole_metres (to_z w16 (of_z w16 dm)) → to_z w16 (of_z w16 r) ≡ whole_metres dm
rise f ok is = to_z-of_z {w = w16} (record { sfits = ok }) ∙ is ∙ ap whole_metres (to_z-of_z f)

pub put-b-requires : goal.put-b-requires
put-b-requires c = omega (arith, number_ends _ c.put_number-a.ensures (omega arith))

pub put_signed-c-requires : goal.put_signed-c-requires
put_signed-c-requires c =
    omega (
      arith,
      number_ends _ c.put_number-a.ensures (omega arith),
      c.put-b.ensures.ends,
    )

pub put-requires : goal.put-requires
put-requires c =
    let w = c.whole_metres in
    omega (
      arith,
      number_ends _ c.put_number-a.ensures (omega arith),
      c.put-b.ensures.ends,
      rw (rise c.ranges.dm w.type_inv w.ensures) at c.put_signed-c.ensures.ends,
      length_metres c.args.dm c.ranges.dm.sfits,
    )

pub returns : goal.returns
unfolding line
returns c =
    let w = c.whole_metres in
    let distance = c.put_number-a.ensures in
    let blank = c.put-b.ensures in
    let metres = c.put_signed-c.ensures in
    rw (← rise c.ranges.dm w.type_inv w.ensures, mul_comm 20 c.args.i) (append_more distance (append_more blank (append_more metres c.put.ensures)))
