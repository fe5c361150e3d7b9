-- `encode::put_due` meets its contract: piece by piece.
use Rattle.words.proofs.PieceLaws.{due_put}
use Rattle.words.proofs.encode.put_due.Goals as goal

pub returns : goal.returns
returns c = record {
  out_after = rw (c.put-3.ensures.out_after, c.wide.ensures, c.held.ensures, c.has.ensures.value, c.put-2.ensures.out_after, c.time-t.ensures, c.put.ensures.out_after, c.bit-2.ensures.value, c.bit.ensures.value) (due_put c.args.d c.args.out.now c.requires);
  out_len = c.put-3.ensures.out_len;
}
