-- `crc::spread` meets its contract: before the first word the register stands in the first of the words that are pending.
use mathlib.Core.Path.{◌∙◌}
use mathlib.Core.List.{List, ◌++◌}
use Prim.Native.Nat.{ℕ}
use native.Mathlib.Omega.{arith}
use lib.ListN.{length-append}
use Rattle.crc.specs.Fcs.{message}
use Rattle.crc.specs.Register.{left_of, Spreads, SpreadsOn}
use Rattle.crc.proofs.Words.{words_start}
use Rattle.crc.proofs.spread.Goals as goal

pub returns : goal.returns
unfolding Spreads SpreadsOn left_of
returns c = λ m h.
    let bytes : List ℕ = c.args.bytes.now in
    c.spread_on.ensures m h
    ∙ words_start c.args.value (message bytes ++ m) (omega (arith, c.ranges.value)) (omega (arith, length-append (message bytes) m))
