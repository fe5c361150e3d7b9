-- `deliver::put_failed` meets its contract: piece by piece, by the count of failures.
use Rattle.std.proofs.Common.{sym, le-ltb, lt-ltb}
use Rattle.words.proofs.CameLaws.{failed_tells, failed_left, eighth_tells, eighth_left}
use Rattle.words.proofs.deliver.put_failed.Goals as goal

pub returns-then-failures-lt7 : goal.returns-then-failures-lt7
returns-then-failures-lt7 c =
    let args = c.args in
    let few = rw c.byte-failures.ensures at (lt-ltb _ _ c.if-failures-lt7.true) in
    record {
      value = sym (failed_tells args.ws.now c.requires args.c few);
      ws_after = rw (c.put_word-then-failures-lt7.ensures.out_after, c.byte.ensures, c.put_word.ensures.out_after, c.put_cache.ensures.out_after, c.byte-failures.ensures, c.wrapping_add_u32-n.ensures.value)
          (failed_left args.ws.now c.requires args.c few);
    }

pub returns : goal.returns
returns c =
    let args = c.args in
    let many = rw c.byte-failures.ensures at (le-ltb _ _ c.if-failures-lt7.false) in
    record {
      value = sym (eighth_tells args.ws.now c.requires args.c many);
      ws_after = rw (c.put_word-3.ensures.out_after, c.put_word-2.ensures.out_after, c.put_word.ensures.out_after, c.put_cache.ensures.out_after, c.wrapping_add_u32-n.ensures.value)
          (eighth_left args.ws.now c.requires args.c many);
    }
