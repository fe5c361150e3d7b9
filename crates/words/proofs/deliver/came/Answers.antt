-- `deliver::came` meets its contract: each return by the fetch, and whether the answer fits it.
use Rattle.std.proofs.Common.{sym, ◌∙◌}
use Rattle.words.specs.Words.{engine_of}
use Rattle.words.proofs.CameLaws.{by_fetch}
use Rattle.words.proofs.deliver.came.Goals as goal

pub returns-then-fits_header : goal.returns-then-fits_header
returns-then-fits_header c =
    let args = c.args in
    let header = c.in-Header.is in
    let by = by_fetch (engine_of args.ws.now) header args.arena.now args.failure args.bytes.now in
    let fits = sym c.fits_header.ensures ∙ c.if-fits_header.true in
    record {
      value = rw (by, fits, header) c.header_came.ensures.value;
      ws_after = rw (by, fits, header) c.header_came.ensures.ws_after;
      arena_after = rw (by, fits);
    }

pub returns-in-Nothing : goal.returns-in-Nothing
returns-in-Nothing c =
    let args = c.args in
    let by = by_fetch (engine_of args.ws.now) c.in-Nothing.is args.arena.now args.failure args.bytes.now in
    record {
      value = rw by c.refused.ensures.value;
      ws_after = rw by c.refused.ensures.ws_after;
      arena_after = rw by;
    }

pub returns-else-fits_header : goal.returns-else-fits_header
returns-else-fits_header c =
    let args = c.args in
    let by = by_fetch (engine_of args.ws.now) c.in-Header.is args.arena.now args.failure args.bytes.now in
    let unfit = sym c.fits_header.ensures ∙ c.if-fits_header.false in
    record {
      value = rw (by, unfit) c.refused-in-Header.ensures.value;
      ws_after = rw (by, unfit) c.refused-in-Header.ensures.ws_after;
      arena_after = rw (by, unfit);
    }

pub returns-in-Entry : goal.returns-in-Entry
returns-in-Entry c =
    let args = c.args in
    let entry = c.in-Entry.is in
    let by = by_fetch (engine_of args.ws.now) entry args.arena.now args.failure args.bytes.now in
    let part = c.entry_came.ensures in
    record {
      value = rw (by, entry) part.value;
      ws_after = rw (by, entry) part.ws_after;
      arena_after = rw (by, entry) part.arena_after;
    }

pub returns-in-Chunk : goal.returns-in-Chunk
returns-in-Chunk c =
    let args = c.args in
    let chunk = c.in-Chunk.is in
    let by = by_fetch (engine_of args.ws.now) chunk args.arena.now args.failure args.bytes.now in
    let part = c.chunk_came.ensures in
    record {
      value = rw (by, chunk) part.value;
      ws_after = rw (by, chunk) part.ws_after;
      arena_after = rw (by, chunk) part.arena_after;
    }
