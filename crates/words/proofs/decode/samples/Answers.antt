-- `decode::samples` meets its contract. The loop's invariant: the heights so far are those of as many words.
use Rattle.std.proofs.Common.{◌≡◌, sym, arith, w16, rules}
use Rattle.pack.proofs.Signed.{got}
use Rattle.words.specs.Words.{heights_of}
use Rattle.words.proofs.ArrayLaws.{filled}
use Rattle.num.proofs.FoldLaws.{up_start, up_turn}
use Rattle.words.proofs.decode.samples.Goals as goal

pub loop-i-init : goal.loop-i-init
loop-i-init c = (search rules, sym (up_start _ _))

pub loop-i-preserved : goal.loop-i-preserved
loop-i-preserved c = (search rules, rw (got w16 c.height.type_inv, c.height.ensures, c.loop-i.invariant.1, up_turn))

pub returns : goal.returns
unfolding heights_of
returns c = let end : c.loop-i.i ≡ 501 = omega arith in rw (c.loop-i.invariant.1, end) (filled _ _ 501 (search rules))
