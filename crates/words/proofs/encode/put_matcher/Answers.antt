-- `encode::put_matcher` meets its contract: piece by piece.
use Rattle.words.proofs.PieceLaws.{matcher_put}
use Rattle.words.proofs.encode.put_matcher.Goals as goal

pub returns : goal.returns
returns c = record {
  out_after = rw (c.put-3.ensures.out_after, c.pattern.ensures, c.byte.ensures, c.put-2.ensures.out_after, c.challenger-d.ensures, c.put.ensures.out_after, c.current-c.ensures) (matcher_put c.args.m c.args.out.now c.requires);
  out_len = c.put-3.ensures.out_len;
}
