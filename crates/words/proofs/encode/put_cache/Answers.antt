-- `encode::put_cache` meets its contract: piece by piece.
use Rattle.words.proofs.PieceLaws.{cache_put}
use Rattle.words.proofs.encode.put_cache.Goals as goal

pub returns : goal.returns
returns c = record {
  out_after = rw (c.put_word.ensures.out_after, c.put_pending.ensures.out_after, c.put_loading.ensures.out_after, c.put_ring.ensures.out_after, c.put_pages.ensures.out_after) (cache_put c.args.c c.args.out.now c.requires);
  out_len = c.put_word.ensures.out_len;
}
