-- `encode::engine` meets its contract: piece by piece.
use Rattle.words.proofs.PieceLaws.{engine_put}
use Rattle.words.proofs.encode.engine.Goals as goal

pub returns : goal.returns
returns c = record {
  out_after = rw (c.put_follower.ensures.out_after, c.put_shared.ensures.out_after) (engine_put c.args.e c.args.out.now c.requires);
  out_len = c.put_follower.ensures.out_len;
}
