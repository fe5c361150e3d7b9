-- `pack::is_sum` meets its contract. The part that is summed is the first 508 bytes.
use mathlib.Core.Path.{sym}
use native.Mathlib.Omega.{arith}
use lib.Seq.{length-take-le}
use Rattle.pack.proofs.is_sum.Goals as goal

pub slice_bounds-crc32-end : goal.slice_bounds-crc32-end
slice_bounds-crc32-end c = sym (length-take-le 508 c.args.sector.now (omega arith))
