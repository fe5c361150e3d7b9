-- `deliver::put_done` meets its contract: piece by piece.
use Rattle.words.proofs.CameLaws.{done_left}
use Rattle.words.proofs.deliver.put_done.Goals as goal

pub returns : goal.returns
returns c =
    let args = c.args in
    rw (c.put_word-2.ensures.out_after, c.put_word.ensures.out_after, c.put_due.ensures.out_after, c.put_cache.ensures.out_after, c.due-due.ensures, c.wrapping_add_u32-n.ensures.value)
    (done_left args.ws.now c.requires args.c)
