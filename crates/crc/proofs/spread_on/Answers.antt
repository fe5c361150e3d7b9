-- `crc::spread_on` meets its contract: at each turn what is pending stands for the octets of the words before.
use Prim.Native.Nat.{ℕ, ◌+◌, ◌*◌}
use mathlib.Core.Path.{◌≡◌, refl}
use mathlib.Core.List.{List}
use native.Mathlib.Omega.{arith}
use lib.ListN.{take, drop}
use lib.Seq.{take-add}
use Rattle.crc.specs.Fcs.{message}
use Rattle.crc.specs.Register.{SpreadsOn}
use Rattle.crc.proofs.Words.{spreads_word, spreads_more}
use Rattle.crc.proofs.spread_on.Goals as goal

pub loop-word-init : goal.loop-word-init
unfolding SpreadsOn message
loop-word-init c = λ m h. refl

pub loop-word-preserved : goal.loop-word-preserved
loop-word-preserved c =
    let loop = c.loop-word in
    let i : ℕ = loop.word * 8 in
    let bytes : List ℕ = c.args.bytes.now in
    let eight : List ℕ = take 8 (drop i bytes) in
    let next : (loop.word + 1) * 8 ≡ i + 8 = omega arith in
    rw (next, take-add i 8 bytes)
    (spreads_more c.args.p loop.q c.turned-q.result (take i bytes) eight loop.invariant
    (spreads_word loop.q c.turned-q.result c.word_at.result eight c.word_at.ensures c.turned-q.ensures))
