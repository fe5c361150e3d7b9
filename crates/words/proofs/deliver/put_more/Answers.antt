-- `deliver::put_more` meets its contract: piece by piece.
use Rattle.words.proofs.CameLaws.{more_left}
use Rattle.words.proofs.deliver.put_more.Goals as goal

pub returns : goal.returns
returns c =
    let args = c.args in
    rw (c.put_word.ensures.out_after, c.put_cache.ensures.out_after, c.wrapping_add_u32-n.ensures.value) (more_left args.ws.now c.requires args.c)
