-- `encode::put_ahead` meets its contract: piece by piece.
use Rattle.words.proofs.PieceLaws.{ahead_put}
use Rattle.std.proofs.Common.{w32}
use Rattle.pack.proofs.Signed.{got}
use Rattle.words.proofs.encode.put_ahead.Goals as goal

pub returns : goal.returns
returns c = record {
  out_after = rw (c.put-5.ensures.out_after, c.byte.ensures, c.pattern-2.ensures, c.end.ensures, c.pattern.ensures, c.size-2.ensures, c.put_behind.ensures.out_after) (rw (c.put-4.ensures.out_after, c.size.ensures, c.put_samples.ensures.out_after, c.put-3.ensures.out_after, c.u32_of_i32.ensures, got w32 c.struct_told-1.given.1.1.1.0.1) (rw (c.put-2.ensures.out_after, c.current-c.ensures, c.put.ensures.out_after, c.high.ensures, c.low.ensures) (ahead_put c.args.a c.args.out.now c.requires)));
  out_len = c.put-5.ensures.out_len;
}
