-- `pages::pages_ok` meets its contract. The loop's invariant: the pages passed are slots, and what is known of them, with the last run (`Passed`).
use Rattle.std.proofs.Common.{◌≡◌, ℕ, ◌+◌, sym, ap, ◌∙◌, arith, rules}
use mathlib.Core.Bool.{and-false}
use borrow.Author.Tests.{lt-leb}
use Rattle.tile.proofs.Laws.{all_none}
use Rattle.cache.specs.Runs.{span}
use Rattle.cache.proofs.PassLaws.{pass_starts, pass_ends}
use Rattle.words.specs.Words.{pages_of}
use Rattle.words.proofs.PagesLaws.{slots_size, count_is, page_fails, slots_more, turn_run, turn_on}
use Rattle.words.proofs.pages.pages_ok.Goals as goal
use Rattle.words.proofs.pages.pages_ok.Goals.{then-ws-at-eq1, else-ws-at-eq1}

pub returns-then-count-gt-MAX_PAGES : goal.returns-then-count-gt-MAX_PAGES
returns-then-count-gt-MAX_PAGES c =
    let count : (pages_of c.args.ws.now 15).count ≡ c.size-count.result = count_is c.args.ws.now 15 ∙ sym c.size-count.ensures in
    rw (count, lt-leb _ _ c.if-count-gt-MAX_PAGES.true, and-false)

pub loop-p-init : goal.loop-p-init
loop-p-init c = (search rules, (search rules, (search rules, (all_none _, pass_starts _ _))))

pub page_ok-requires : goal.page_ok-requires
page_ok-requires c = omega (arith, c.loop-p.invariant, c.loop-p-test.true)

pub returns-then-not-page_ok : goal.returns-then-not-page_ok
returns-then-not-page_ok c =
    let at_loop = c.loop-p in
    let ws = c.args.ws.now in
    let below = c.loop-p-test.true in
    page_fails ws at_loop.p at_loop.head at_loop.end below c.size-count.ensures at_loop.invariant.1.1.1.1 (sym c.page_ok.ensures ∙ c.if-not-page_ok.true)

pub overflow_add-end : goal.overflow_add-end
unfolding span
overflow_add-end c = omega (arith, c.span.ensures, c.loop-p-test.true)

pub loop-p-preserved : goal.loop-p-preserved
loop-p-preserved c =
    let at_loop = c.loop-p in
    let ws = c.args.ws.now in
    let below = c.loop-p-test.true in
    let ok = sym c.page_ok.ensures ∙ c.if-not-page_ok.false in (
      omega (arith, below),
      (
        at_loop.invariant.1.0,
        (
          elim c.if-ws-at-eq1.branch [
            | then-ws-at-eq1 w ↦ omega (arith, w.head-is, below)
            | else-ws-at-eq1 w ↦ omega (arith, w.head-is, at_loop.invariant.1.1.0)
          ],
          (
            slots_more ws at_loop.p at_loop.head at_loop.end below c.size-count.ensures at_loop.invariant.1.1.1.1 ok at_loop.invariant.1.1.1.0,
            elim c.if-ws-at-eq1.branch [
              | then-ws-at-eq1 w ↦ turn_run ws at_loop.p at_loop.head at_loop.end below c.size-count.ensures at_loop.invariant.1.1.1.1 ok w.if-ws-at-eq1.true w.head-is (w.end-is ∙ ap (λ (n : ℕ). at_loop.p + n) w.span.ensures)
              | else-ws-at-eq1 w ↦ turn_on ws at_loop.p at_loop.head at_loop.end below c.size-count.ensures at_loop.invariant.1.1.1.1 ok w.if-ws-at-eq1.false w.head-is w.end-is
            ],
          ),
        ),
      ),
    )

pub returns : goal.returns
returns c =
    let at_loop = c.loop-p in
    let ws = c.args.ws.now in
    let end : at_loop.p ≡ 96 = omega arith in
    let count : (pages_of ws 15).count ≡ c.size-count.result = count_is ws 15 ∙ sym c.size-count.ensures in
    rw (rw end at at_loop.invariant.1.1.1.0)
    (pass_ends (pages_of ws 15) at_loop.p _ (slots_size ws 15) at_loop.invariant.1.1.1.1 (omega (arith, count, at_loop.invariant)) end)
