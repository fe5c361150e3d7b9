-- `deliver::put_begun` meets its contract: piece by piece.
use Rattle.words.proofs.BeginLaws.{begun_left}
use Rattle.words.proofs.deliver.put_begun.Goals as goal

pub returns : goal.returns
returns c = rw (c.put_word.ensures.out_after, c.put_pending.ensures.out_after, c.put_loading.ensures.out_after, c.wrapping_add_u32-n.ensures.value) (begun_left c.args.ws.now c.args.key c.args.slot c.args.offset c.args.len c.begin.ensures)
