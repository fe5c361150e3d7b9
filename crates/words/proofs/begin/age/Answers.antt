-- `begin::age` meets its contract: each return by the page's head.
use Rattle.std.proofs.Common.{sym, ◌∙◌}
use Rattle.words.proofs.BeginLaws.{age_past, age_run, age_bare}
use Rattle.words.proofs.begin.age.Goals as goal

pub returns-then-h-ge-MAX_PAGES : goal.returns-then-h-ge-MAX_PAGES
returns-then-h-ge-MAX_PAGES c = age_past c.args.ws.now c.args.p c.head_of-h.ensures c.if-h-ge-MAX_PAGES.true

pub returns-then-is_run : goal.returns-then-is_run
returns-then-is_run c = c.since.ensures ∙ age_run c.args.ws.now c.args.p c.head_of-h.ensures c.if-h-ge-MAX_PAGES.false (sym c.is_run.ensures ∙ c.if-is_run.true)

pub returns : goal.returns
returns c = age_bare c.args.ws.now c.args.p c.head_of-h.ensures (sym c.is_run.ensures ∙ c.if-is_run.false)
