-- `put_tenths` meets its contract: whole metres, a point, and the last digit.
use Prim.Native.Nat.{◌/◌}
use native.Mathlib.Omega.{arith}
use Rattle.profile_text.specs.Page.{tenths}
use Rattle.profile_text.proofs.Laws.{append_more, length-decimal}
use Rattle.profile_text.proofs.page.put_tenths.Goals as goal

pub put-b-requires : goal.put-b-requires
put-b-requires c = omega (arith, c.put_number-a.ensures.ends, length-decimal 3 (c.args.n / 10) (omega arith))

pub put_number-requires : goal.put_number-requires
put_number-requires c =
    omega (
      arith,
      c.put_number-a.ensures.ends,
      c.put-b.ensures.ends,
      length-decimal 3 (c.args.n / 10) (omega arith),
    )

pub returns : goal.returns
unfolding tenths
returns c = append_more c.put_number-a.ensures (append_more c.put-b.ensures c.put_number.ensures)
