-- `work::road_gone` meets its contract: the words that change are put.
use Rattle.words.proofs.WorkLaws.{ahead_in, gone_words}
use Rattle.words.proofs.work.road_gone.Goals as goal

pub returns : goal.returns
returns c =
    let ws = c.args.ws.now in
    rw (c.put_ahead.ensures.out_after, c.put_matcher.ensures.out_after, c.reset-none.ensures, c.emptied-empty.ensures, c.ahead-a.ensures, ahead_in ws) (gone_words ws c.requires c.args.at_ms)
