-- `encode::put_follower` meets its contract: piece by piece.
use Rattle.words.proofs.PieceLaws.{follower_put}
use Rattle.words.proofs.encode.put_follower.Goals as goal

pub returns : goal.returns
returns c = record {
  out_after = rw (c.put.ensures.out_after, c.pattern.ensures, c.byte.ensures, c.put_ahead.ensures.out_after, c.put_due.ensures.out_after, c.put_matcher.ensures.out_after, c.put_sight.ensures.out_after) (follower_put c.args.f c.args.out.now c.requires);
  out_len = c.put.ensures.out_len;
}
