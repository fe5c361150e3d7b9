-- `encode::put_ring` meets its contract: piece by piece.
use Rattle.words.proofs.PieceLaws.{ring_put}
use Rattle.words.proofs.encode.put_ring.Goals as goal

pub returns : goal.returns
returns c = record {
  out_after = rw (c.put.ensures.out_after, c.size.ensures, c.put_keys.ensures.out_after) (ring_put c.args.ring c.args.out.now c.requires);
  out_len = c.put.ensures.out_len;
}
