-- `put_bytes` meets its contract: the text stands in the place of the part.
use native.Mathlib.Omega.{arith}
use Rattle.profile_text.proofs.Laws.{append_part}
use Rattle.profile_text.proofs.put_bytes.Goals as goal

pub returns : goal.returns
returns c = rw c.copy_from_slice.ensures.after (append_part _ _ _ _ _ (omega arith) (omega arith) (omega arith))
