-- `cache::victim::ages_of` meets its contract. The loop's invariant: the array holds the ages of the pages passed.
use Rattle.std.proofs.Common.{◌≡◌, length, ◌∙◌, arith, length-set}
use Rattle.cache.specs.Victim.{age}
use Rattle.cache.proofs.VictimLaws.{age_read, aged_more}
use Rattle.cache.proofs.victim.ages_of.Goals as goal

pub loop-i-preserved : goal.loop-i-preserved
loop-i-preserved c =
    let at_loop = c.loop-i in
    let g = c.args.g in
    let size : length g.slots ≡ 96 = c.well_formed.0.1.1.0.1.0.1 in
    let is : c.age_at.result ≡ age g at_loop.i
    = c.age_at.ensures
    ∙ age_read g at_loop.i c.head_of-h.result c.place_of-at.result size c.head_of-h.ensures c.place_of-at.ensures.1 in (
      length-set at_loop.ages at_loop.i c.age_at.result ∙ at_loop.invariant.0,
      rw is (aged_more g at_loop.ages at_loop.i (omega arith) at_loop.invariant.1),
    )
