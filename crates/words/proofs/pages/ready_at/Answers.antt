-- `pages::ready_at` meets its contract. The loop's invariant: no page passed starts a ready run of the key. Past the last of the 96 pages none does.
use Rattle.std.proofs.Common.{◌≡◌, ℕ, ◌≤◌, false, sym, ◌∙◌, arith, le-ltb, lt-ltb, eq-eqb, ne_eqb}
use Rattle.cache.proofs.SearchLaws.{lowest_start, lowest_hit, lowest_miss, lowest_past}
use Rattle.words.proofs.PagesLaws.{ready_in, ready_at_is}
use Rattle.words.proofs.pages.ready_at.Goals as goal
use Rattle.words.proofs.pages.ready_at.Goals.{else-ws-i-eq3-via-then-ws-i-eq3+else-ws-i, else-ws-i-eq3-via-else-ws-i-eq3}

pub loop-i-init : goal.loop-i-init
loop-i-init c = lowest_start _

pub returns-then-i-ge-MAX_PAGES : goal.returns-then-i-ge-MAX_PAGES
returns-then-i-ge-MAX_PAGES c =
    let at_loop = c.loop-i in
    let short = c.well_formed.1.0.1.1.1.0.1 in
    let past : (k : ℕ) → at_loop.i ≤ k → ready_in c.args.ws.now c.of_key-word.result k ≡ false = λ (k : ℕ) (h : at_loop.i ≤ k).
    rw (le-ltb k 96 (omega (arith, c.if-i-ge-MAX_PAGES.true, h))) in
    sym (ready_at_is c.args.ws.now c.args.key short c.of_key-word.ensures c.size-count.ensures
    ∙ lowest_past _ at_loop.i c.size-count.result (omega arith) past at_loop.invariant)

pub returns-then-ws-i : goal.returns-then-ws-i
returns-then-ws-i c =
    let at_loop = c.loop-i in
    let short = c.well_formed.1.0.1.1.1.0.1 in
    sym (ready_at_is c.args.ws.now c.args.key short c.of_key-word.ensures c.size-count.ensures
    ∙ lowest_hit _ at_loop.i c.size-count.result c.loop-i-test.true at_loop.invariant
    (rw (lt-ltb _ _ c.if-i-ge-MAX_PAGES.false, eq-eqb _ _ c.if-ws-i-eq3.true, eq-eqb _ _ c.if-ws-i.true)))

pub loop-i-preserved : goal.loop-i-preserved
loop-i-preserved c =
    let at_loop = c.loop-i in
    lowest_miss _ at_loop.i at_loop.invariant
    (elim c.else-ws-i-eq3.branch [
      | else-ws-i-eq3-via-then-ws-i-eq3+else-ws-i w ↦ rw (lt-ltb _ _ c.if-i-ge-MAX_PAGES.false, eq-eqb _ _ w.if-ws-i-eq3.true, ne_eqb _ _ w.if-ws-i.false)
      | else-ws-i-eq3-via-else-ws-i-eq3 w ↦ rw (lt-ltb _ _ c.if-i-ge-MAX_PAGES.false, ne_eqb _ _ w.if-ws-i-eq3.false)
    ])

pub returns : goal.returns
returns c =
    let at_loop = c.loop-i in
    let short = c.well_formed.1.0.1.1.1.0.1 in
    let end : at_loop.i ≡ c.size-count.result = omega (arith, c.loop-i-test.false) in
    sym (ready_at_is c.args.ws.now c.args.key short c.of_key-word.ensures c.size-count.ensures ∙ rw end at at_loop.invariant)
