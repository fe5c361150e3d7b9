-- `begin::begin` meets its contract: the pages emptied, then the head and its pieces.
use Rattle.std.proofs.Common.{arith}
use Rattle.cache.proofs.RunLaws.{span_pos}
use Rattle.words.proofs.BeginLaws.{begun_past, headed_accepted, begun_in}
use Rattle.words.proofs.begin.begin.Goals as goal

pub returns-then-at-ge-MAX_PAGES : goal.returns-then-at-ge-MAX_PAGES
returns-then-at-ge-MAX_PAGES c = begun_past c.args.ws.now c.requires c.args.at c.args.key c.args.len c.span-pages.ensures c.evict.ensures c.if-at-ge-MAX_PAGES.true

pub overflow_sub-pages : goal.overflow_sub-pages
overflow_sub-pages c = omega (arith, span_pos c.args.len, c.span-pages.ensures)

pub piece_run-requires : goal.piece_run-requires
piece_run-requires c = (headed_accepted c.args.ws.now c.requires c.args.at c.args.key c.args.len c.span-pages.ensures c.evict.ensures c.if-at-ge-MAX_PAGES.false (c.well_formed.1.1.0.1.1.0.1, c.well_formed.1.1.0.1.1.1.0.1) (omega (arith, c.ranges.len)) c.of_key.ensures c.put_slot.ensures.ws_after, c.if-at-ge-MAX_PAGES.false)

pub returns : goal.returns
returns c = begun_in c.args.ws.now c.requires c.args.at c.args.key c.args.len c.span-pages.ensures c.evict.ensures c.if-at-ge-MAX_PAGES.false (c.well_formed.1.1.0.1.1.0.1, c.well_formed.1.1.0.1.1.1.0.1) (omega (arith, c.ranges.len)) c.of_key.ensures c.put_slot.ensures.ws_after c.piece_run.ensures
