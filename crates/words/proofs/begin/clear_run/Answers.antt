-- `begin::clear_run` meets its contract. The loop's invariant: the words are those of the engine with other pages, and clearing what is left of these, from where the loop stands, is clearing all from the start.
use Rattle.cache.specs.Evict.{clear_run}
use Rattle.words.proofs.BeginLaws.{starts, standing_long, clear_on, clear_done, clear_out}
use Rattle.words.proofs.begin.clear_run.Goals as goal

pub loop-left-init : goal.loop-left-init
loop-left-init c = starts c.args.ws.now c.requires (clear_run c.args.n c.args.from)

pub returns-then-at-ge-MAX_PAGES : goal.returns-then-at-ge-MAX_PAGES
returns-then-at-ge-MAX_PAGES c = clear_out _ _ c.loop-left.left c.loop-left.at _ c.if-at-ge-MAX_PAGES.true c.loop-left.invariant

pub put_slot-requires : goal.put_slot-requires
put_slot-requires c = (c.if-at-ge-MAX_PAGES.false, standing_long c.loop-left.invariant)

pub loop-left-preserved : goal.loop-left-preserved
loop-left-preserved c = clear_on _ _ c.loop-left.left c.loop-left.at _ c.loop-left-test.true c.if-at-ge-MAX_PAGES.false c.loop-left.invariant c.put_slot.ensures.ws_after c.put_slot.ensures.ws_len

pub returns : goal.returns
returns c = clear_done _ _ c.loop-left.left c.loop-left.at _ c.loop-left-test.false c.loop-left.invariant
