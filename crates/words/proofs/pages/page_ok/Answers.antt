-- `pages::page_ok` meets its contract: each return by the tests of the page's words.
use Rattle.std.proofs.Common.{◌≡◌, ◌&&◌, ltb, leb, get_or, sym, ◌∙◌, arith, le-ltb, lt-ltb, eq-eqb, ne_eqb, le-leb}
use borrow.Author.Tests.{lt-leb}
use Rattle.cache.specs.Runs.{span}
use Rattle.words.proofs.PagesLaws.{page_asks}
use Rattle.words.proofs.pages.page_ok.Goals as goal
use Rattle.words.proofs.pages.page_ok.Goals.{then-tag-lt4, else-tag-lt4}

pub returns-then-len-gt65535 : goal.returns-then-len-gt65535
returns-then-len-gt65535 c =
    rw (page_asks c.args.ws.now c.args.at c.args.p c.args.head c.args.end c.args.count c.requires.1.1.0, lt-leb _ _ c.if-len-gt65535.true)

pub overflow_add-result : goal.overflow_add-result
unfolding span
overflow_add-result c = omega (arith, c.span.ensures, c.if-len-gt65535.false, c.requires)

pub returns-then-end-p : goal.returns-then-end-p
returns-then-end-p c =
    let first : (ltb (get_or c.args.ws.now c.args.at 0) 4 && leb c.args.end c.args.p) ≡ c.if-tag-lt4.t-18 = elim c.if-tag-lt4.branch [
      | then-tag-lt4 w ↦ rw (lt-ltb _ _ w.if-tag-lt4.true) (sym w.t-18-is)
      | else-tag-lt4 w ↦ rw (le-ltb _ _ w.if-tag-lt4.false) (sym (w.t-18-is ∙ le-ltb _ _ w.if-tag-lt4.false))
    ] in
    rw (page_asks c.args.ws.now c.args.at c.args.p c.args.head c.args.end c.args.count c.requires.1.1.0, le-leb _ _ c.if-len-gt65535.false, eq-eqb _ _ c.if-tag-eq1.true, first ∙ c.if-end-p.true-raw, c.span.ensures)

pub returns-else-end-p : goal.returns-else-end-p
returns-else-end-p c =
    let first : (ltb (get_or c.args.ws.now c.args.at 0) 4 && leb c.args.end c.args.p) ≡ c.if-tag-lt4.t-18 = elim c.if-tag-lt4.branch [
      | then-tag-lt4 w ↦ rw (lt-ltb _ _ w.if-tag-lt4.true) (sym w.t-18-is)
      | else-tag-lt4 w ↦ rw (le-ltb _ _ w.if-tag-lt4.false) (sym (w.t-18-is ∙ le-ltb _ _ w.if-tag-lt4.false))
    ] in
    rw (page_asks c.args.ws.now c.args.at c.args.p c.args.head c.args.end c.args.count c.requires.1.1.0, le-leb _ _ c.if-len-gt65535.false, eq-eqb _ _ c.if-tag-eq1.true, first ∙ c.if-end-p.false-raw) c.if-end-p.false-raw

pub returns-then-ws-at-ne0 : goal.returns-then-ws-at-ne0
returns-then-ws-at-ne0 c =
    rw (page_asks c.args.ws.now c.args.at c.args.p c.args.head c.args.end c.args.count c.requires.1.1.0, le-leb _ _ c.if-len-gt65535.false, ne_eqb _ _ c.if-tag-eq1.false, ne_eqb _ _ c.if-ws-at-ne0.true)

pub returns-then-tag-lt4-2 : goal.returns-then-tag-lt4-2
returns-then-tag-lt4-2 c =
    rw (page_asks c.args.ws.now c.args.at c.args.p c.args.head c.args.end c.args.count c.requires.1.1.0, le-leb _ _ c.if-len-gt65535.false, ne_eqb _ _ c.if-tag-eq1.false, eq-eqb _ _ c.if-ws-at-ne0.false, lt-ltb _ _ c.if-tag-lt4-2.true)

pub returns-then-p-end : goal.returns-then-p-end
returns-then-p-end c =
    rw (page_asks c.args.ws.now c.args.at c.args.p c.args.head c.args.end c.args.count c.requires.1.1.0, le-leb _ _ c.if-len-gt65535.false, ne_eqb _ _ c.if-tag-eq1.false, eq-eqb _ _ c.if-ws-at-ne0.false, le-ltb _ _ c.if-tag-lt4-2.false, lt-ltb _ _ c.if-p-end.true)

pub returns-else-p-end : goal.returns-else-p-end
returns-else-p-end c =
    rw (page_asks c.args.ws.now c.args.at c.args.p c.args.head c.args.end c.args.count c.requires.1.1.0, le-leb _ _ c.if-len-gt65535.false, ne_eqb _ _ c.if-tag-eq1.false, eq-eqb _ _ c.if-ws-at-ne0.false, le-ltb _ _ c.if-tag-lt4-2.false, le-ltb _ _ c.if-p-end.false)
