-- `deliver::chunk_came` meets its contract: by whether the chunk leaves more to come (`chunk_goes_on`); any other answer is that of a part.
use Rattle.std.proofs.Common.{sym, ◌∙◌}
use Rattle.words.specs.Words.{engine_of}
use Rattle.words.proofs.CameLaws.{loading_in, chunk_goes_on}
use Rattle.words.proofs.deliver.chunk_came.Goals as goal

pub returns-then-is_more : goal.returns-then-is_more
returns-then-is_more c =
    let args = c.args in
    let loads = loading_in args.ws.now ∙ sym c.loading-loading.ensures ∙ c.in-Some.is in
    let more = sym c.is_more.ensures ∙ c.if-is_more.true in
    let came = chunk_goes_on (engine_of args.ws.now) args.arena.now args.bytes.now args.failure c.requires.arena_value loads more in
    record {
      value = rw came;
      ws_after = rw (came, ← c.chunk_len.ensures) c.put_further.ensures;
      arena_after = rw came c.put.ensures;
    }
