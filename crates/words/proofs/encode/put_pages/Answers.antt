-- `encode::put_pages` meets its contract: piece by piece.
use Rattle.words.proofs.PieceLaws.{pages_put}
use Rattle.words.proofs.encode.put_pages.Goals as goal

pub returns : goal.returns
returns c = record {
  out_after = rw (c.put.ensures.out_after, c.size.ensures, c.put_used.ensures.out_after, c.put_slots.ensures.out_after) (pages_put c.args.g c.args.out.now c.requires);
  out_len = c.put.ensures.out_len;
}
