-- `work::match_lost` meets its contract: the words that change are put.
use Rattle.words.proofs.WorkLaws.{ahead_in, lost_words}
use Rattle.words.proofs.work.match_lost.Goals as goal

pub returns : goal.returns
returns c =
    let ws = c.args.ws.now in
    rw (c.put_word.ensures.out_after, c.put_ahead.ensures.out_after, c.put_due.ensures.out_after, c.put_matcher.ensures.out_after, c.emptied-empty.ensures, c.ahead-a.ensures, ahead_in ws)
    (lost_words ws c.requires _ c.wrapping_add_u32-n.ensures.value c.args.m c.args.due c.args.at_ms)
