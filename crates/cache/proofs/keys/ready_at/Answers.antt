-- `cache::keys::ready_at` meets its contract. The loop's invariant: no page passed starts a ready run of the key. Past the last of the
-- 96 pages stands the empty slot, which is not ready.
use Rattle.std.proofs.Common.{◌≡◌, ℕ, ◌<◌, ◌≤◌, ⊎_elim, false, List, length, sym, ◌∙◌, arith}
use lib.ListN.{get_or-eq_default}
use Rattle.pack.specs.declared.TileKey.{TileKey}
use Rattle.cache.specs.declared.Slot.{Slot}
use Rattle.cache.specs.Runs.{empty_slot, slot_at}
use Rattle.cache.specs.Keys.{is_ready, ready_at}
use Rattle.cache.proofs.Below.{below_or}
use Rattle.cache.proofs.SearchLaws.{lowest_hit, lowest_past}
use Rattle.cache.proofs.keys.ready_at.Goals as goal

past : (key : TileKey) (slots : List Slot) (i : ℕ) → length slots ≤ i → is_ready key (slot_at slots i) ≡ false
unfolding is_ready
past key slots i h = rw (get_or-eq_default slots empty_slot h)

pub returns-then-is_ready : goal.returns-then-is_ready
unfolding ready_at
returns-then-is_ready c =
    let at_loop = c.loop-i in
    sym (lowest_hit _ at_loop.i c.args.g.count (omega arith) at_loop.invariant (sym c.is_ready.ensures ∙ c.if-is_ready.true))

-- up to the count, or past the last page
pub returns : goal.returns
unfolding ready_at
returns c =
    let slots = c.args.g.slots in
    let count = c.args.g.count in
    let at_loop = c.loop-i in
    let size : length slots ≡ 96 = c.well_formed.0.1.1.0.1.0.1 in
    ⊎_elim
    (λ (h : count < 96). let end : at_loop.i ≡ count = omega (arith, h) in sym (rw end at at_loop.invariant))
    (λ (h : 96 ≤ count).
    sym (lowest_past _ at_loop.i count (omega (arith, h)) (λ (k : ℕ) (q : at_loop.i ≤ k). past c.args.key slots k (omega (arith, h, q))) at_loop.invariant))
    (below_or count 96)
