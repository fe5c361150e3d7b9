-- `put_place` meets its contract: its five parts, one behind the other.
use native.Mathlib.Omega.{arith}
use Rattle.profile_text.specs.Drive.{place}
use Rattle.profile_text.proofs.Laws.{append_more}
use Rattle.profile_text.proofs.drive.put_place.Goals as goal

pub returns : goal.returns
unfolding place
returns c =
    let row = c.put_field-a.ensures in
    let col = c.put_field-b.ensures in
    let edge = c.put_field-c.ensures in
    let way = c.put_way-d.ensures in
    record {
      appended = append_more row.appended (append_more col.appended (append_more edge.appended (append_more way.appended c.put_metres.ensures.appended)));
      upper_bound = omega (arith, row.upper_bound, col.upper_bound, edge.upper_bound, way.upper_bound, c.put_metres.ensures.upper_bound);
    }
