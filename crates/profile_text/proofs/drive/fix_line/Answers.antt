-- `fix_line` meets its contract: the parts of the line, one behind the other from 0 on.
use Rattle.profile_text.specs.Drive.{fix_line}
use Rattle.profile_text.proofs.Laws.{append_more, whole}
use Rattle.profile_text.proofs.drive.fix_line.Goals as goal

pub returns : goal.returns
unfolding fix_line
returns c = let both = whole (append_more c.put_field-a.ensures.appended (append_more c.put_status-b.ensures.appended (append_more c.put_match-c.ensures.appended c.put_road.ensures))) in record { value = both.0; out_after = both.1 }
