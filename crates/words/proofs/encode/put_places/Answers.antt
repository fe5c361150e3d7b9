-- `encode::put_places` meets its contract: piece by piece.
use Rattle.words.proofs.PieceLaws.{places_put}
use Rattle.words.proofs.encode.put_places.Goals as goal

pub returns : goal.returns
returns c = record {
  out_after = rw (c.put.ensures.out_after, c.size.ensures, c.put_points.ensures.out_after) (places_put c.args.h c.args.out.now c.requires);
  out_len = c.put.ensures.out_len;
}
