-- `begin::piece_run` meets its contract. The loop's invariant: the words are those of the engine with other pages, and writing what is left of these, from where the loop stands, is writing all from the start.
use Rattle.std.proofs.Common.{refl}
use Rattle.cache.specs.Evict.{piece_run}
use Rattle.words.proofs.BeginLaws.{starts, standing_long, piece_on, piece_done, piece_out}
use Rattle.words.proofs.begin.piece_run.Goals as goal

pub loop-left-init : goal.loop-left-init
loop-left-init c = starts c.args.ws.now c.requires.0 (piece_run c.args.n c.args.from c.args.head)

pub returns-then-at-ge-MAX_PAGES : goal.returns-then-at-ge-MAX_PAGES
returns-then-at-ge-MAX_PAGES c = piece_out _ _ c.loop-left.left c.loop-left.at _ c.args.head c.if-at-ge-MAX_PAGES.true c.loop-left.invariant

pub put_slot-requires : goal.put_slot-requires
put_slot-requires c = (c.if-at-ge-MAX_PAGES.false, standing_long c.loop-left.invariant)

pub loop-left-preserved : goal.loop-left-preserved
loop-left-preserved c = piece_on _ _ c.loop-left.left c.loop-left.at _ c.args.head c.requires.1 c.loop-left-test.true c.if-at-ge-MAX_PAGES.false c.loop-left.invariant c.put_slot.ensures.ws_after refl

pub returns : goal.returns
returns c = piece_done _ _ c.loop-left.left c.loop-left.at _ c.args.head c.loop-left-test.false c.loop-left.invariant
