-- `work::match_found` meets its contract: the words that change are put.
use Rattle.words.proofs.WorkLaws.{found_words}
use Rattle.words.proofs.work.match_found.Goals as goal

pub returns : goal.returns
returns c =
    rw (c.put_word.ensures.out_after, c.put_due.ensures.out_after, c.put_matcher.ensures.out_after) (found_words c.args.ws.now c.requires _ c.wrapping_add_u32-n.ensures.value c.args.m c.args.due)
