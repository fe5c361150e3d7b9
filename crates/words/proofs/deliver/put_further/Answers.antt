-- `deliver::put_further` meets its contract: piece by piece.
use Rattle.words.proofs.CameLaws.{further_left}
use Rattle.words.proofs.deliver.put_further.Goals as goal

pub returns : goal.returns
returns c =
    let args = c.args in
    rw (c.put_word.ensures.out_after, c.put_pending.ensures.out_after, c.put_loading.ensures.out_after, c.wrapping_add_u32-n.ensures.value) (further_left args.ws.now c.requires args.l args.done)
