-- `encode::put_shared` meets its contract: piece by piece.
use Rattle.words.proofs.PieceLaws.{shared_put}
use Rattle.words.proofs.encode.put_shared.Goals as goal

pub returns : goal.returns
returns c = record {
  out_after = rw (c.put_cache.ensures.out_after, c.put_header.ensures.out_after, c.put.ensures.out_after, c.phase.ensures) (shared_put c.args.s c.args.out.now c.requires);
  out_len = c.put_cache.ensures.out_len;
}
