-- `crc::turned` meets its contract: the word that is taken away stands at its four places.
use native.Mathlib.Omega.{arith}
use lib.Bits.{xor_lt}
use Rattle.crc.specs.Register.{left_of, Turns}
use Rattle.crc.proofs.Words.{turned_words, word_turned}
use Rattle.crc.proofs.turned.Goals as goal

pub returns : goal.returns
unfolding Turns left_of turned_words
returns c = λ m h.
    let p = c.args.p in
    word_turned p.first p.second p.third p.fourth p.fifth c.args.x m
    (xor_lt 64 p.first c.args.x (omega (arith, c.well_formed, c.struct_known-1.given)) (omega (arith, c.ranges.x))) h
