-- `engine::deliver::whole_sector` meets its contract. The loop's invariant: the sector so far is the definition's after as many bytes.
use Rattle.std.proofs.Common.{◌≡◌, sym, arith}
use Rattle.num.proofs.FoldLaws.{up_start, up_turn}
use Rattle.engine.specs.Deliver.{sector_of}
use Rattle.engine.proofs.deliver.whole_sector.Goals as goal

pub loop-i-init : goal.loop-i-init
loop-i-init c = sym (up_start _ _)

pub loop-i-preserved : goal.loop-i-preserved
loop-i-preserved c = rw (c.loop-i.invariant, up_turn)

pub returns : goal.returns
unfolding sector_of
returns c =
    let end : c.loop-i.i ≡ 512 = omega arith in
    rw (c.loop-i.invariant, end)
