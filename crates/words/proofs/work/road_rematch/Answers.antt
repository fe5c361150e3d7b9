-- `work::road_rematch` meets its contract: the words that change are put.
use Rattle.words.proofs.WorkLaws.{due_in, rematched_words}
use Rattle.words.proofs.work.road_rematch.Goals as goal

pub returns : goal.returns
returns c =
    let ws = c.args.ws.now in
    rw (c.put_word.ensures.out_after, c.put_due.ensures.out_after, c.put_matcher.ensures.out_after, c.put_uses.ensures.out_after, c.reset-none.ensures, c.due-due.ensures, due_in ws) (rematched_words ws c.requires _ c.wrapping_add_u32-n.ensures.value c.args.uses)
