-- `crc::ended` meets its contract: the register takes the five sums, and then the octets behind them.
use Prim.Native.Nat.{ℕ, ◌-◌}
use mathlib.Core.Path.{◌≡◌}
use mathlib.Core.List.{List}
use native.Mathlib.Omega.{arith}
use lib.ListN.{length, take, drop, length-drop}
use lib.Seq.{take_all}
use Rattle.crc.specs.Register.{left_of, Ends}
use Rattle.crc.proofs.Words.{words_taken, five_words}
use Rattle.crc.proofs.ended.Goals as goal

pub returns : goal.returns
unfolding Ends left_of
returns c =
    let p = c.args.p in
    let o : List ℕ = c.args.o.now in
    let v : ℕ = c.word_at.result in
    let w : ℕ = c.word_at-2.result in
    let x : ℕ = c.word_at-3.result in
    let y : ℕ = c.word_at-4.result in
    let z : ℕ = c.word_at-5.result in
    let behind : take (length o - 40) (drop 40 o) ≡ drop 40 o = take_all (length o - 40) (drop 40 o) (simp length-drop (omega arith)) in
    words_taken p.first p.second p.third p.fourth p.fifth v w x y z
    c.crc_word-c.result c.crc_word-c-2.result c.crc_word-c-3.result c.crc_word-c-4.result c.crc_word-c-5.result c.crc_few.result o (drop 40 o)
    (five_words v w x y z o c.word_at.ensures c.word_at-2.ensures c.word_at-3.ensures
    c.word_at-4.ensures c.word_at-5.ensures)
    c.crc_word-c.ensures c.crc_word-c-2.ensures c.crc_word-c-3.ensures c.crc_word-c-4.ensures c.crc_word-c-5.ensures
    (rw behind at c.crc_few.ensures)
