-- `work::match_made` meets its contract: each return by whether there is a match, and whether one is published.
use Rattle.std.proofs.Common.{sym, ◌∙◌}
use Rattle.engine.specs.Work.{counted}
use Rattle.words.specs.Words.{engine_of}
use Rattle.words.proofs.WorkLaws.{due_in, published_in, matched_found, matched_lost, matched_still}
use Rattle.words.proofs.work.match_made.Goals as goal
use Rattle.words.proofs.work.match_made.Goals.{then-is_matched-via-then-is_matched, then-is_matched-via-else-is_matched+then-not-is_matched}

pub returns-then-is_matched : goal.returns-then-is_matched
returns-then-is_matched c =
    let ws = c.args.ws.now in
    let f = counted (engine_of ws).follower in
    elim c.then-is_matched.branch [
      | then-is_matched-via-then-is_matched test ↦ rw (c.match_found.ensures, c.matched_due-next.ensures, c.current-published.ensures, c.due-due.ensures, due_in ws, published_in ws, matched_found f c.args.m c.args.fix (sym c.is_matched.ensures ∙ test.if-is_matched.true))
      | then-is_matched-via-else-is_matched+then-not-is_matched test ↦ rw (c.match_found.ensures, c.matched_due-next.ensures, c.current-published.ensures, c.due-due.ensures, due_in ws, published_in ws, matched_still f c.args.m c.args.fix (sym c.is_matched.ensures ∙ test.if-is_matched.false) (rw (c.current-published.ensures, published_in ws) at (sym test.is_matched-else-is_matched.ensures ∙ test.if-not-is_matched.true)))
    ]

pub returns : goal.returns
returns c =
    let ws = c.args.ws.now in
    rw (c.match_lost.ensures, c.matched_due-next.ensures, c.current-published.ensures, c.due-due.ensures, due_in ws, published_in ws, matched_lost (counted (engine_of ws).follower) c.args.m c.args.fix (sym c.is_matched.ensures ∙ c.if-is_matched.false))
