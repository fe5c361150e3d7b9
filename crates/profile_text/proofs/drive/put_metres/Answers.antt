-- `put_metres` meets its contract: whole metres, a point, and the last digit.
use native.Mathlib.Omega.{arith}
use Rattle.profile_text.specs.Drive.{metres}
use Rattle.profile_text.proofs.Laws.{append_more, number_ends}
use Rattle.profile_text.proofs.drive.put_metres.Goals as goal

pub put-b-requires : goal.put-b-requires
put-b-requires c = omega (arith, number_ends _ c.put_number-a.ensures (omega arith))

pub put_field-requires : goal.put_field-requires
put_field-requires c = omega (arith, number_ends _ c.put_number-a.ensures (omega arith), c.put-b.ensures.ends)

pub returns : goal.returns
unfolding metres
returns c =
    let number = c.put_number-a.ensures in
    let point = c.put-b.ensures in
    record {
      appended = append_more number (append_more point c.put_field.ensures.appended);
      upper_bound = omega (arith, number_ends _ number (omega arith), point.ends, c.put_field.ensures.upper_bound);
    }
