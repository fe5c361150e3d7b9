-- `put_road` meets its contract: its three parts and a line end, one behind the other.
use native.Mathlib.Omega.{arith}
use Rattle.profile_text.specs.Drive.{road}
use Rattle.profile_text.proofs.Laws.{append_more, number_ends}
use Rattle.profile_text.proofs.drive.put_road.Goals as goal

pub put-requires : goal.put-requires
put-requires c = omega (arith, number_ends _ c.put_number-c.ensures (omega arith))

pub returns : goal.returns
unfolding road
returns c = append_more c.put_field-a.ensures.appended (append_more c.put_end-b.ensures.appended (append_more c.put_number-c.ensures c.put.ensures))
