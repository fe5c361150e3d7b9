-- `work::asks` meets its contract: the words that change are put.
use Rattle.words.proofs.WorkLaws.{asked_words}
use Rattle.words.proofs.work.asks.Goals as goal

pub returns : goal.returns
returns c =
    rw (c.put_word.ensures.out_after, c.put_due.ensures.out_after) (asked_words c.args.ws.now c.requires _ c.wrapping_add_u32-n.ensures.value c.args.due)
