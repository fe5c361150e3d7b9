-- `look::use_run` meets its contract: each return by whether the run has an age (`run_used`, `run_past`).
use Rattle.std.proofs.Common.{arith}
use Rattle.words.proofs.UsesLaws.{run_used, run_past}
use Rattle.words.proofs.look.use_run.Goals as goal

pub returns-then-first-ge-MAX_PAGES : goal.returns-then-first-ge-MAX_PAGES
returns-then-first-ge-MAX_PAGES c =
    rw c.put_word.ensures.out_after (run_past c.args.ws.now c.requires c.args.first _ c.wrapping_add_u32-age.ensures.value c.if-first-ge-MAX_PAGES.true)

pub returns : goal.returns
returns c =
    rw (c.put_word-2.ensures.out_after, c.put_word.ensures.out_after)
    (run_used c.args.ws.now c.requires c.args.first _ c.wrapping_add_u32-age.ensures.value (omega (arith, c.if-first-ge-MAX_PAGES.false)))
