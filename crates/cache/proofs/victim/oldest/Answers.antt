-- `cache::victim::oldest` meets its contract. The loop's invariant: the best so far is the best of the starts passed.
use Rattle.std.proofs.Common.{◌≡◌, ◌+◌, ◌-◌, sym, arith}
use Rattle.cache.specs.Victim.{youngest_in}
use Rattle.cache.proofs.VictimLaws.{best_turn}
use Rattle.cache.proofs.victim.oldest.Goals as goal

pub loop-i-preserved : goal.loop-i-preserved
loop-i-preserved c =
    let i = c.loop-i.i in
    let here : i - 1 + 1 ≡ i = omega arith in
    let next : i + 1 - 1 ≡ i = omega arith in
    rw (c.better-b.ensures, c.youngest-in-loop-i.ensures, c.loop-i.invariant, next) (sym (rw here at (best_turn (youngest_in c.args.v.now c.args.pages) (i - 1))))
