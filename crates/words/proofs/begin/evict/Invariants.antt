-- `begin::evict` meets its contract. The loop's invariant: the words are those of the engine with other pages, and evicting what is left of these, from where the loop stands, is evicting all from the start.
use Rattle.cache.specs.Evict.{evicted}
use Rattle.words.specs.Words.{pages_of, engine_of}
use Rattle.words.proofs.BeginLaws.{Standing}
use Rattle.words.proofs.begin.evict.Given as goal

abbrev pub invariant-loop-left : goal.invariant-loop-left
invariant-loop-left l = Standing (engine_of l.initial.ws) l.ws (evicted l.left l.at) (evicted l.pages l.first (pages_of l.initial.ws 15))

abbrev pub decreases-loop-left : goal.decreases-loop-left
decreases-loop-left l = l.left
