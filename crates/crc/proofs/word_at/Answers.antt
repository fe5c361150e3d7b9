-- `crc::word_at` meets its contract: two halves one behind the other.
use Prim.Native.Nat.{ℕ, ◌+◌}
use mathlib.Core.Path.{sym, ap, ap₂, ◌∙◌}
use mathlib.Core.List.{List, ◌++◌}
use native.Mathlib.Omega.{arith}
use lib.ListN.{take, drop}
use lib.Seq.{take-add, drop-drop}
use Rattle.crc.specs.Fcs.{message}
use Rattle.crc.proofs.Laws.{bits_join, message-append}
use Rattle.crc.proofs.word_at.Goals as goal

pub returns : goal.returns
returns c =
    let os : List ℕ = c.args.bytes.now in
    let i : ℕ = c.args.i in
    bits_join 32 32 c.four_at-low.result c.four_at-high.result (omega (arith, c.four_at-low.type_inv))
    ∙ ap₂ ◌++◌ c.four_at-low.ensures c.four_at-high.ensures
    ∙ sym (message-append (take 4 (drop i os)) (take 4 (drop (i + 4) os)))
    ∙ ap message (ap (λ (l : List ℕ). take 4 (drop i os) ++ take 4 l) (sym (drop-drop 4 i os)) ∙ sym (take-add 4 4 (drop i os)))
