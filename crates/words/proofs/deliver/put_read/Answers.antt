-- `deliver::put_read` meets its contract: piece by piece.
use Rattle.words.proofs.CameLaws.{read_left}
use Rattle.words.proofs.deliver.put_read.Goals as goal

pub returns : goal.returns
returns c =
    let args = c.args in
    rw (c.put_word-2.ensures.out_after, c.put_pending.ensures.out_after, c.put_header.ensures.out_after, c.put_word.ensures.out_after) (read_left args.ws.now c.requires args.header)
