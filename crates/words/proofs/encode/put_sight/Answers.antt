-- `encode::put_sight` meets its contract: piece by piece.
use Rattle.words.proofs.PieceLaws.{sight_put}
use Rattle.words.proofs.encode.put_sight.Goals as goal

pub returns : goal.returns
returns c = record {
  out_after = rw (c.put-3.ensures.out_after, c.high.ensures, c.low.ensures, c.put-2.ensures.out_after, c.heading-h.ensures, c.put_places.ensures.out_after, c.put.ensures.out_after, c.fix-f.ensures) (sight_put c.args.s c.args.out.now c.requires);
  out_len = c.put-3.ensures.out_len;
}
