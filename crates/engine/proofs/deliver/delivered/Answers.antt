-- `engine::deliver::delivered` meets its contract: each return by number 12's test, the open fetch, and whether the answer fits it.
use Rattle.std.proofs.Common.{sym, ◌∙◌}
use borrow.Author.Tests.{not-true, not-false}
use Rattle.engine.specs.Calls.{deliver}
use Rattle.engine.specs.Deliver.{delivered}
use Rattle.engine.proofs.StepNeeds.{part_delivered}
use Rattle.engine.proofs.deliver.delivered.Goals as goal

pub returns-then-not-engine_ok : goal.returns-then-not-engine_ok
unfolding deliver delivered
returns-then-not-engine_ok c =
    let bad = sym c.engine_ok.ensures ∙ not-true _ c.if-not-engine_ok.true-raw in
    record {
      value = rw (c.refused.ensures, bad);
      arena_after = rw bad;
    }

pub returns-then-fits_header : goal.returns-then-fits_header
unfolding deliver delivered
returns-then-fits_header c =
    let ok = sym c.engine_ok.ensures ∙ not-false _ c.if-not-engine_ok.false-raw in
    let header = c.in-Header.is in
    let fits = sym c.fits_header.ensures ∙ c.if-fits_header.true in
    record {
      value = rw (c.header_came.ensures, ok, header, fits);
      arena_after = rw (ok, header, fits);
    }

pub returns-in-Nothing : goal.returns-in-Nothing
unfolding deliver delivered
returns-in-Nothing c =
    let ok = sym c.engine_ok.ensures ∙ not-false _ c.if-not-engine_ok.false-raw in
    let none = c.in-Nothing.is in
    record {
      value = rw (c.refused-in-Nothing.ensures, ok, none);
      arena_after = rw (ok, none);
    }

pub returns-else-fits_header : goal.returns-else-fits_header
unfolding deliver delivered
returns-else-fits_header c =
    let ok = sym c.engine_ok.ensures ∙ not-false _ c.if-not-engine_ok.false-raw in
    let header = c.in-Header.is in
    let unfit = sym c.fits_header.ensures ∙ c.if-fits_header.false in
    record {
      value = rw (c.refused-in-Header.ensures, ok, header, unfit);
      arena_after = rw (ok, header, unfit);
    }

pub returns-in-Entry : goal.returns-in-Entry
unfolding deliver delivered
returns-in-Entry c =
    let ok = sym c.engine_ok.ensures ∙ not-false _ c.if-not-engine_ok.false-raw in
    let args = c.args in
    let part = part_delivered args.e.shared.cache.pending c.in-Entry.in-Entry-own.keys3 args.e args.arena.now args.failure args.bytes.now in
    record {
      value = rw (ok, part) c.need_came.ensures.value;
      arena_after = rw (ok, part) c.need_came.ensures.arena_after;
    }
