-- `crc::entry` meets its contract: the table's rule at the low half octet.
use Prim.Native.Nat.{ℕ}
use mathlib.Core.Path.{ap, ◌∙◌}
use lib.Bits.{bit_and, and_mask, mask_lt}
use Rattle.crc.specs.Register.{Rule, half}
use Rattle.crc.proofs.Laws.{half_low}
use Rattle.crc.proofs.entry.Goals as goal

pub returns : goal.returns
unfolding Rule
returns c =
    let v : ℕ = c.args.v in
    let k : ℕ = c.args.k in
    c.requires.rule k (bit_and v 15) c.requires.k_bound (mask_lt v 4) ∙ ap (half k) (and_mask v 4) ∙ half_low k v
