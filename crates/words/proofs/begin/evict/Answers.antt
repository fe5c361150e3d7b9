-- `begin::evict` meets its contract. The loop's invariant: the words are those of the engine with other pages, and evicting what is left of these, from where the loop stands, is evicting all from the start.
use Rattle.cache.specs.Evict.{evicted}
use Rattle.words.proofs.BeginLaws.{starts, evict_accepted, evict_on, evict_done, evict_out}
use Rattle.words.proofs.begin.evict.Goals as goal

pub loop-left-init : goal.loop-left-init
loop-left-init c = starts c.args.ws.now c.requires (evicted c.args.pages c.args.first)

pub returns-then-at-ge-MAX_PAGES : goal.returns-then-at-ge-MAX_PAGES
returns-then-at-ge-MAX_PAGES c = evict_out c.args.ws.now c.requires _ c.loop-left.left c.loop-left.at _ c.loop-left.invariant c.if-at-ge-MAX_PAGES.true

pub clear_run-requires : goal.clear_run-requires
clear_run-requires c = evict_accepted c.args.ws.now c.requires _ c.loop-left.left c.loop-left.at _ c.loop-left.invariant

pub loop-left-preserved : goal.loop-left-preserved
loop-left-preserved c = evict_on c.args.ws.now c.requires _ c.loop-left.left c.loop-left.at _ c.loop-left.invariant c.loop-left-test.true c.head_of-h.ensures c.room_at-n.ensures c.clear_run.ensures

pub returns : goal.returns
returns c = evict_done c.args.ws.now c.requires _ c.loop-left.left c.loop-left.at _ c.loop-left.invariant c.loop-left-test.false
