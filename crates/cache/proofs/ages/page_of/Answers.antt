-- `cache::ages::page_of` meets its contract. The loop's invariant: on no page passed the tile is ready.
use Rattle.std.proofs.Common.{◌≡◌, ℕ, ◌<◌, ◌≤◌, ⊎_elim, arith, le-ltb, lt-ltb}
use Rattle.cache.specs.Ages.{page_of}
use Rattle.cache.proofs.Below.{below_or}
use Rattle.cache.proofs.SearchLaws.{lowest_hit, lowest_past}
use Rattle.cache.proofs.LooksLaws.{both}
use Rattle.cache.proofs.ages.page_of.Goals as goal

pub returns-then-looks-i-2 : goal.returns-then-looks-i-2
unfolding page_of
returns-then-looks-i-2 c =
    let at_loop = c.loop-i in
    let count = c.wide-n in
    let low = lt-ltb at_loop.i 96 (omega arith) in
    rw (
      ← count.ensures,
      lowest_hit _ at_loop.i count.result (omega arith) at_loop.invariant
          (rw low (both _ _ _ _ c.if-looks-i.true c.if-looks-i-2.true)),
    )

-- up to the count, or past the last page
pub returns : goal.returns
unfolding page_of
returns c =
    let at_loop = c.loop-i in
    let count = c.wide-n in
    ⊎_elim
    (λ (h : count.result < 96). let end : at_loop.i ≡ count.result = omega (arith, h) in rw (← count.ensures, rw end at at_loop.invariant))
    (λ (h : 96 ≤ count.result). rw (
      ← count.ensures,
      lowest_past _ at_loop.i count.result (omega (arith, h)) (λ (k : ℕ) (q : at_loop.i ≤ k). rw (le-ltb k 96 (omega (arith, h, q)))) at_loop.invariant,
    ))
    (below_or count.result 96)
