-- `work::road_publish` meets its contract: the words that change are put.
use Rattle.engine.specs.Work.{road_done}
use Rattle.words.specs.Words.{engine_of}
use Rattle.words.proofs.WorkLaws.{due_in, published_words}
use Rattle.words.proofs.work.road_publish.Goals as goal

pub returns : goal.returns
returns c =
    let ws = c.args.ws.now in
    rw (c.put_word.ensures.out_after, c.put_ahead.ensures.out_after, c.put_due.ensures.out_after, c.put_uses.ensures.out_after, c.road_done-done.ensures, c.due-due.ensures, due_in ws) (published_words ws c.requires _ c.wrapping_add_u32-n.ensures.value c.args.uses (road_done (engine_of ws).follower.due c.args.at_ms) c.args.road)
